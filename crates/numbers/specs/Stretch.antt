-- A test that fails at every index from m up to n: a sum or a scan up to m is one up to n.
use Rattle.std.specs.Prelude.{◌≡◌, refl, Bool, false, ℕ, ◌≤◌, ◌<◌, ℤ, pos, nat_abs, None}
use Rattle.std.proofs.Common.{sym, ap, ◌∙◌, add-one, arith}
use Rattle.std.proofs.Math.Decide.{le_ind}
use Rattle.numbers.specs.Scan.{first_bad, first_more}
use Rattle.numbers.specs.Sums.{sum_where, sum_where_no}
use Rattle.numbers.specs.Budget.{sum_n_where, sum-pos}

module _ (t : ℕ → Bool) (m : ℕ) where
  pub sum_where_same : (f : ℕ → ℤ) (n : ℕ) → m ≤ n → ((i : ℕ) → m ≤ i → i < n → t i ≡ false) → sum_where m t f ≡ sum_where n t f
  sum_where_same f n h =
      le_ind (λ (k : ℕ). ((i : ℕ) → m ≤ i → i < k → t i ≡ false) → sum_where m t f ≡ sum_where k t f) (λ e. refl)
      (λ k p w e. w (λ i a b. e i a (omega arith)) ∙ sym (rw add-one at (sum_where_no k t f (e k p (omega arith))))) n h

  pub first_same : (n : ℕ) → m ≤ n → first_bad t m ≡ None → ((i : ℕ) → m ≤ i → i < n → t i ≡ false) → first_bad t n ≡ None
  first_same n h z =
      le_ind (λ (k : ℕ). ((i : ℕ) → m ≤ i → i < k → t i ≡ false) → first_bad t k ≡ None) (λ e. z)
      (λ k p w e. rw add-one at (first_more t k (w (λ i a b. e i a (omega arith))) (e k p (omega arith)))) n h

  pub sum_n_where_same : (f : ℕ → ℕ) (n : ℕ) → m ≤ n → ((i : ℕ) → m ≤ i → i < n → t i ≡ false) → sum_n_where m t f ≡ sum_n_where n t f
  sum_n_where_same f n h e = ap nat_abs (sym (sum-pos m t f) ∙ sum_where_same (λ i. pos (f i)) n h e ∙ sum-pos n t f)
