-- The one deposit of a class: the shares of a class are those of the deposit that names it, or none.
use Rattle.std.specs.Prelude.{Option, Some, None, is_some, unwrap_or}
use mathlib.Core.Path.{◌≡◌, refl, sym, ap, ◌∙◌}
use mathlib.Core.Bool.{Bool, true, false, not, cond, true≢false}
use mathlib.Core.Logic.{◌⊎◌, inl, inr}
use mathlib.Core.List.{List}
use Prim.Native.Nat.{ℕ, ◌<◌}
use native.Mathlib.Decide.{ℕ_discrete, dec_lt}
use native.Mathlib.Omega.{arith}
use borrow.Author.Tests.{eq-eqb, eqb-true, ne_eqb, not-false}
use lib.Dec.{eqb}
use Rattle.numbers.specs.Scan.{first_bad, first_at, first_clear}
use Rattle.numbers.specs.Lists.{nothing_hit}
use Rattle.numbers.specs.Budget.{sum_n_where, sum_n-zero, sum_n_ext, sum_n_one}
use Rattle.model.specs.DayFile.{class_count, class_number, class_with, class_place}
use Rattle.model.specs.Deposits.{deposit_count, named_number, shares, shares_of}
use Rattle.model.proofs.Accepted.{DepositRows}
use Rattle.model.proofs.DepositOrders.{known, not-again}

-- the class with a number that is known has this number
pub place_number : (d : List ℕ) (n : ℕ) → not (is_some (class_with d n)) ≡ false → class_number d (class_place d n) ≡ n
unfolding class_place
place_number d n e = by (class_with d n) refl (not-false (is_some (class_with d n)) e)
  where
    by : (f : Option ℕ) → class_with d n ≡ f → is_some f ≡ true → class_number d (unwrap_or f (class_count d)) ≡ n
    by (Some c) p q = eqb-true (class_number d c) n (first_at (λ c. eqb (class_number d c) n) (class_count d) c p).1
    by None p q = absurd (true≢false (sym q))

module _ (d x : List ℕ) (r : DepositRows d x) where
  -- two deposits of one class are one
  same_deposit : (i j : ℕ) → i < deposit_count x → j < deposit_count x → named_number x i ≡ named_number x j → i ≡ j
  same_deposit i j hi hj e = by (dec_lt i j) (dec_lt j i)
    where
      earlier : (a b : ℕ) → b < deposit_count x → a < b → named_number x a ≡ named_number x b → ⊥
      earlier a b hb l q =
          let z = first_clear (λ k. eqb (named_number x k) (named_number x b)) b (nothing_hit (first_bad (λ k. eqb (named_number x k) (named_number x b)) b) (not-again d x b (r.at50 b hb))) a l in
          true≢false (sym (eq-eqb (named_number x a) (named_number x b) q) ∙ z)

      by : Dec (i < j) → Dec (j < i) → i ≡ j
      by (yes l) q = absurd (earlier i j hj l e)
      by (no l) (yes m) = absurd (earlier j i hi m (sym e))
      by (no l) (no m) = omega arith

  pub shares_named : (i : ℕ) → i < deposit_count x → shares_of d x (class_place d (named_number x i)) ≡ shares x i
  unfolding shares_of
  shares_named i h =
      sum_n_ext (deposit_count x) (λ j. cond (eqb (class_place d (named_number x j)) (class_place d (named_number x i))) (shares x j) 0) (λ j. cond (eqb j i) (shares x j) 0)
      (λ j l. ap (λ (t : Bool). cond t (shares x j) 0) (by j l (ℕ_discrete j i)))
      ∙ sum_n_one (deposit_count x) (shares x) i h
    where
      by : (j : ℕ) → j < deposit_count x → Dec (j ≡ i) → eqb (class_place d (named_number x j)) (class_place d (named_number x i)) ≡ eqb j i
      by j l (yes e) = eq-eqb (class_place d (named_number x j)) (class_place d (named_number x i)) (ap (λ (k : ℕ). class_place d (named_number x k)) e) ∙ sym (eq-eqb j i e)
      by j l (no e) =
          ne_eqb (class_place d (named_number x j)) (class_place d (named_number x i))
          (λ q. e (same_deposit j i l h
          (sym (place_number d (named_number x j) (known d x j (r.at50 j l))) ∙ ap (class_number d) q ∙ place_number d (named_number x i) (known d x i (r.at50 i h)))))
          ∙ sym (ne_eqb j i e)

  -- a class is named by a deposit, or has no shares
  pub named_or_none : (c : ℕ) → ((i : ℕ) × (i < deposit_count x) × (class_place d (named_number x i) ≡ c)) ⊎ (shares_of d x c ≡ 0)
  unfolding shares_of
  named_or_none c = by (first_bad (λ i. eqb (class_place d (named_number x i)) c) (deposit_count x)) refl
    where
      by : (f : Option ℕ) → first_bad (λ i. eqb (class_place d (named_number x i)) c) (deposit_count x) ≡ f
          → ((i : ℕ) × (i < deposit_count x) × (class_place d (named_number x i) ≡ c)) ⊎ (sum_n_where (deposit_count x) (λ i. eqb (class_place d (named_number x i)) c) (shares x) ≡ 0)
      by (Some i) p =
          let z = first_at (λ i. eqb (class_place d (named_number x i)) c) (deposit_count x) i p in
          inl (i, z.0, eqb-true (class_place d (named_number x i)) c z.1)
      by None p =
          inr (sum_n-zero (deposit_count x) (λ i. cond (eqb (class_place d (named_number x i)) c) (shares x i) 0)
          (λ i h. ap (λ (t : Bool). cond t (shares x i) 0) (first_clear (λ i. eqb (class_place d (named_number x i)) c) (deposit_count x) p i h)))
