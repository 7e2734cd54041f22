-- Lists whose members have numbers that rise strictly; so do the members of a family chosen by their numbers.
use Rattle.std.specs.Prelude.{◌≡◌, Bool, cond}
use Rattle.std.proofs.Math.Path.{refl}
use Rattle.std.proofs.Common.{arith}
use Rattle.std.proofs.Math.Bool.{true, false}
use mathlib.Core.List.{List, [], ◌∷◌, ◌++◌}
use Prim.Native.Nat.{ℕ, zero, suc, ◌≤◌, ◌<◌}
use Rattle.numbers.specs.Chosen.{chosen}

-- the numbers f of the members of a list rise from k on, and end below n
pub data Rising {A : Type 0} (f : A → ℕ) (n : ℕ) : ℕ → List A → Type 0 where
  ends : {k : ℕ} → k ≤ n → Rising f n k []
  next : {k : ℕ} {a : A} {l : List A} → k ≤ f a → Rising f n (suc (f a)) l → Rising f n k (a ∷ l)

module _ {A : Type 0} (f : A → ℕ) where
  append : {m n k : ℕ} {l r : List A} → Rising f m k l → Rising f n m r → Rising f n k (l ++ r)
  append (ends h) (ends q) = ends (omega arith)
  append (ends h) (next p r) = next (omega arith) r
  append (next p r) q = next p (append r q)

  module _ (t : ℕ → Bool) (L : ℕ → A) where
    one : (b : Bool) (i : ℕ) → (b ≡ true → f (L i) ≡ i) → Rising f (suc i) i (cond b (L i ∷ []) [])
    one true i h = let e = h refl in next (omega (arith, e)) (ends (omega (arith, e)))
    one false i h = ends (omega arith)

    pub chosen_rises : (n : ℕ) → ((i : ℕ) → i < n → t i ≡ true → f (L i) ≡ i) → Rising f n 0 (chosen t L n)
    unfolding chosen
    chosen_rises zero h = ends (omega arith)
    chosen_rises (suc n) h = append (chosen_rises n (λ i p. h i (omega arith))) (one (t n) n (h n (omega arith)))
