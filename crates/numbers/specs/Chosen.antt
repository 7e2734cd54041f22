-- Laws of lists joined one behind the other, and of the members of a family at the numbers below n where a test holds.
use Rattle.std.specs.Prelude.{◌≡◌, Bool, ◌||◌, ℤ, pos, ◌+ℤ◌}
use Rattle.std.proofs.Math.Path.{refl, sym, ap}
use Rattle.std.proofs.Common.{◌∙◌, le_refl}
use Rattle.std.proofs.Math.Bool.{true, false, cond, or_assoc}
use mathlib.Core.List.{List, [], ◌∷◌, ◌++◌, append_assoc, append-nil}
use Prim.Native.Nat.{ℕ, zero, suc, ◌+◌, ◌*◌, ◌≤◌, ◌<◌}
use Rattle.std.proofs.Math.Nat.{mul-suc}
use Rattle.std.proofs.Math.Numerals.{add-one}
use Rattle.std.proofs.Math.Decide.{le_ind}
use native.Mathlib.Omega.{arith}
use Rattle.std.proofs.Math.IntN.{+ℤ_idl, +ℤ_idr, +ℤ_assoc}
use Rattle.std.proofs.Math.ListN.{length, length-append}
use Rattle.numbers.specs.Definitions.{blocks}
unfoldable pub use Rattle.numbers.specs.Definitions.{joined, chosen}
use Rattle.numbers.specs.Sums.{sum_to, sum_where}
use Rattle.numbers.specs.Perms.{sum_of}
use Rattle.numbers.specs.Lists.{any_of}
use Rattle.numbers.specs.Table.{tabulate}
use Rattle.numbers.specs.Budget.{sum_n, sum_n_where}

-- ---- lists joined

-- every list has k members
pub data Each {A : Type 0} (k : ℕ) : List (List A) → Type 0 where
  none : Each k []
  more : {b : List A} {l : List (List A)} → length b ≡ k → Each k l → Each k (b ∷ l)

module _ {A : Type 0} where
  pub each_append : {k : ℕ} {l m : List (List A)} → Each k l → Each k m → Each k (l ++ m)
  each_append none q = q
  each_append (more h p) q = more h (each_append p q)

  pub each-tabulate : (k n : ℕ) (f : ℕ → List A) → ((i : ℕ) → length (f i) ≡ k) → Each k (tabulate n f)
  unfolding tabulate
  each-tabulate k zero f h = none
  each-tabulate k (suc n) f h = more (h 0) (each-tabulate k n (λ i. f (suc i)) (λ i. h (suc i)))

  pub joined-append : (l m : List (List A)) → joined (l ++ m) ≡ joined l ++ joined m
  unfolding joined
  joined-append [] m = refl
  joined-append (b ∷ l) m = ap (λ (x : List A). b ++ x) (joined-append l m) ∙ sym (append_assoc b (joined l) (joined m))

  pub joined_length : {k : ℕ} {l : List (List A)} → Each k l → length (joined l) ≡ k * length l
  unfolding joined
  joined_length {k = k} none = omega arith
  joined_length {k = k} (more {b = b} {l = l} h e) = omega (arith, length-append b (joined l), joined_length e, h, mul-suc k (length l))

  pub sum-append : (f : A → ℤ) (l m : List A) → sum_of f (l ++ m) ≡ sum_of f l +ℤ sum_of f m
  unfolding sum_of
  sum-append f [] m = sym (+ℤ_idl (sum_of f m))
  sum-append f (a ∷ l) m = ap (λ (x : ℤ). f a +ℤ x) (sum-append f l m) ∙ sym (+ℤ_assoc (f a) (sum_of f l) (sum_of f m))

  pub any_append : (u : A → Bool) (l m : List A) → any_of u (l ++ m) ≡ (any_of u l || any_of u m)
  unfolding any_of
  any_append u [] m = refl
  any_append u (a ∷ l) m = ap (λ (x : Bool). u a || x) (any_append u l m) ∙ sym (or_assoc (u a) (any_of u l) (any_of u m))

-- ---- the members chosen

module _ {A : Type 0} (t : ℕ → Bool) (L : ℕ → A) where
  -- one number more, as a loop meets them
  pub chosen_none : chosen t L 0 ≡ []
  unfolding chosen
  chosen_none = refl

  pub chosen_yes : (i : ℕ) → t i ≡ true → chosen t L (i + 1) ≡ chosen t L i ++ (L i ∷ [])
  unfolding chosen
  chosen_yes i e = rw add-one (ap (λ (b : Bool). chosen t L i ++ cond b (L i ∷ []) []) e)

  pub chosen_no : (i : ℕ) → t i ≡ false → chosen t L (i + 1) ≡ chosen t L i
  unfolding chosen
  chosen_no i e = rw add-one (ap (λ (b : Bool). chosen t L i ++ cond b (L i ∷ []) []) e ∙ append-nil (chosen t L i))

  -- the list grows, and stays over numbers of which none passes
  pub chosen_grows : (m n : ℕ) → m ≤ n → length (chosen t L m) ≤ length (chosen t L n)
  unfolding chosen
  chosen_grows m n h =
      le_ind (λ (k : ℕ). length (chosen t L m) ≤ length (chosen t L k)) (le_refl (length (chosen t L m)))
      (λ k l r. omega (arith, r, length-append (chosen t L k) (cond (t k) (L k ∷ []) []))) n h

  pub chosen_rest : (m n : ℕ) → m ≤ n → ((i : ℕ) → m ≤ i → i < n → t i ≡ false) → chosen t L n ≡ chosen t L m
  unfolding chosen
  chosen_rest m n h =
      le_ind (λ (k : ℕ). ((i : ℕ) → m ≤ i → i < k → t i ≡ false) → chosen t L k ≡ chosen t L m) (λ f. refl)
      (λ k l r f.
      ap (λ (b : Bool). chosen t L k ++ cond b (L k ∷ []) []) (f k l (omega arith)) ∙ append-nil (chosen t L k) ∙ r (λ i p q. f i p (omega arith))) n h

  one_length : (b : Bool) (i : ℕ) → length (cond b (L i ∷ []) []) ≡ cond b 1 0
  one_length true i = refl
  one_length false i = refl

  -- as many as the numbers at which t holds
  pub chosen-length : (n : ℕ) → length (chosen t L n) ≡ sum_n_where n t (λ i. 1)
  unfolding chosen sum_n
  chosen-length zero = refl
  chosen-length (suc n) = length-append (chosen t L n) (cond (t n) (L n ∷ []) []) ∙ (λ j. chosen-length n j + one_length (t n) n j)

  one_sum : (f : A → ℤ) (b : Bool) (i : ℕ) → sum_of f (cond b (L i ∷ []) []) ≡ cond b (f (L i)) (pos 0)
  unfolding sum_of
  one_sum f true i = +ℤ_idr (f (L i))
  one_sum f false i = refl

  pub chosen-sum : (f : A → ℤ) (n : ℕ) → sum_of f (chosen t L n) ≡ sum_where n t (λ i. f (L i))
  unfolding chosen sum_to sum_of
  chosen-sum f zero = refl
  chosen-sum f (suc n) = sum-append f (chosen t L n) (cond (t n) (L n ∷ []) []) ∙ (λ j. chosen-sum f n j +ℤ one_sum f (t n) n j)

  one_any : (u : A → Bool) (b : Bool) (i : ℕ) → (b ≡ true → u (L i) ≡ false) → any_of u (cond b (L i ∷ []) []) ≡ false
  unfolding any_of
  one_any u true i h = ap (λ (x : Bool). x || false) (h refl)
  one_any u false i h = refl

  -- a test that fails at every member chosen
  pub chosen_any : (u : A → Bool) (n : ℕ) → ((i : ℕ) → i < n → t i ≡ true → u (L i) ≡ false) → any_of u (chosen t L n) ≡ false
  unfolding chosen any_of
  chosen_any u zero h = refl
  chosen_any u (suc n) h =
      any_append u (chosen t L n) (cond (t n) (L n ∷ []) [])
      ∙ (λ j. chosen_any u n (λ i p. h i (omega arith)) j || one_any u (t n) n (h n (omega arith)) j)

module _ {A : Type 0} (t : ℕ → Bool) (L : ℕ → List A) where
  one_each_lem : (k : ℕ) (b : Bool) (i : ℕ) → length (L i) ≡ k → Each k (cond b (L i ∷ []) [])
  one_each_lem k true i h = more h none
  one_each_lem k false i h = none

  pub chosen-each : (k : ℕ) → ((i : ℕ) → length (L i) ≡ k) → (n : ℕ) → Each k (chosen t L n)
  unfolding chosen
  chosen-each k h zero = none
  chosen-each k h (suc n) = each_append (chosen-each k h n) (one_each_lem k (t n) n (h n))

-- ---- as the blocks of a set

module _ (t : ℕ → Bool) (L : ℕ → List ℕ) where
  one_joined : (b : Bool) (i : ℕ) → joined (cond b (L i ∷ []) []) ≡ cond b (L i) []
  unfolding joined
  one_joined true i = append-nil (L i)
  one_joined false i = refl

  pub chosen-joined : (n : ℕ) → joined (chosen t L n) ≡ blocks t L n
  unfolding chosen blocks joined
  chosen-joined zero = refl
  chosen-joined (suc n) = joined-append (chosen t L n) (cond (t n) (L n ∷ []) []) ∙ (λ j. chosen-joined n j ++ one_joined (t n) n j)
