-- The nets after cover: of one series by the shares of its class, and as a table that is covered class by class.
use Rattle.std.specs.Prelude.{◌≡◌, cond, List, ℕ, ◌-◌, ◌/◌, ◌≤◌, ◌<◌, ℤ, length}
use Rattle.std.proofs.Common.{sym, ap, ◌∙◌, arith, lt-ltb}
use Rattle.std.proofs.Math.Decide.{dec_lt}
use Rattle.numbers.specs.Filling.{filled, filled_none, filled_kept, filled_all}
use Rattle.numbers.specs.Table.{tabulate, length-tabulate}
use Rattle.model.specs.DayFile.{class_count, series_count, series_class, series_type, multiplier}
use Rattle.model.specs.Deposits.{shares_of}
use Rattle.model.specs.Netting.{position_count}
use Rattle.model.specs.Steps.Positions.{open_net}
use Rattle.model.specs.Steps.Cover.{is_coverable, reduced, contracts_covered, cover_before, series_covered, covered}
use Rattle.model.proofs.Accepted.{DayRows}
use Rattle.model.proofs.Cover.{open_key, covered_above, covered_kept}
use Rattle.model.proofs.Together.{class_below}
use Rattle.classes.specs.Range.{start_of, cut, Range}

-- the net of series s after cover by k shares of its class
abbrev pub covered_with : List ℕ → (ℕ → ℤ) → ℕ → ℕ → ℤ
covered_with d n k s = cond (is_coverable (series_type d s)) (reduced (open_net n 0 s) (k / multiplier d s - cover_before d n s)) (open_net n 0 s)

pub covered_with_lem : (d x : List ℕ) (n : ℕ → ℤ) (k s : ℕ) → s < series_count d → k ≡ shares_of d x (series_class d s) → covered_with d n k s ≡ covered d x n s
unfolding covered series_covered contracts_covered
covered_with_lem d x n k s h e =
    (λ i. cond (is_coverable (series_type d s)) (reduced (open_net n 0 s) (e i / multiplier d s - cover_before d n s)) (n (open_key s i)))
    ∙ sym (rw (lt-ltb s (series_count d) h))

-- the nets, those of the series below k after cover
abbrev pub covered_to : List ℕ → List ℕ → (ℕ → ℤ) → ℕ → List ℤ
covered_to d x n k = filled position_count (covered d x n) n k

module _ (d x : List ℕ) (n : ℕ → ℤ) where
  pub covered-length : (k : ℕ) → length (covered_to d x n k) ≡ position_count
  covered-length k = length-tabulate position_count (λ i. _)

  -- a class without shares
  pub class_kept : (c a b : ℕ) → Range d c a b → shares_of d x c ≡ 0 → covered_to d x n a ≡ covered_to d x n b
  class_kept c a b r e =
      filled_kept position_count (covered d x n) n a b r.rising
      (λ s p q. covered_kept d x n s (ap (shares_of d x) (r.here s p q) ∙ e))

  module _ (r : DayRows d) where
    -- before the first class, and after the last
    pub first_class : tabulate position_count n ≡ covered_to d x n (start_of d 0)
    first_class =
        filled_none position_count (covered d x n) n
        ∙ filled_kept position_count (covered d x n) n 0 (start_of d 0) (omega arith) (λ s p q. absurd (omega (arith, (cut d r 0).below s q)))

    pub last_class : series_count d ≤ position_count → covered_to d x n (start_of d (class_count d)) ≡ tabulate position_count (covered d x n)
    last_class few =
        filled_kept position_count (covered d x n) n (start_of d (class_count d)) position_count (omega (arith, (cut d r (class_count d)).end))
        (λ s p q. by s p (dec_lt s (series_count d)))
        ∙ filled_all position_count (covered d x n) n position_count (omega arith)
      where
        by : (s : ℕ) → start_of d (class_count d) ≤ s → Dec (s < series_count d) → covered d x n s ≡ n s
        by s p (yes l) = absurd (omega (arith, (cut d r (class_count d)).above s p l, class_below d r s l))
        by s p (no l) = covered_above d x n s (omega arith)
