-- The sum of step 3 as a loop over a class's range has it, and the size of a series's part.
use Rattle.std.specs.Prelude.{◌≡◌, Bool, cond, List, ℕ, ◌+◌, ◌≤◌, ◌<◌, ◌^◌, ℤ, pos, nat_abs, ◌+ℤ◌}
use Rattle.std.proofs.Common.{sym, ◌∙◌, arith}
use Rattle.std.proofs.Math.Path.{ap}
use Rattle.numbers.specs.Abs.{nat_abs--}
use Rattle.numbers.specs.Budget.{sum_n_at}
use Rattle.numbers.specs.Sums.{sum_where}
use Rattle.model.specs.DayFile.{series_count, series_type, closing, is_marked}
use Rattle.model.specs.Netting.{position, position_count}
use Rattle.model.specs.Steps.Positions.{open_net, open_dvp}
use Rattle.model.specs.Steps.Classes.{marked_of, worth}
use Rattle.model.specs.Steps.Mtm.{security_mtm, mtm_of, mtm}
use Rattle.model.proofs.Limits.{closing_limit}
use Rattle.model.proofs.Records.{Budget}
use Rattle.model.proofs.Bounds.{worth_bound}
use Rattle.classes.specs.Tables.{entry, Given}
use Rattle.classes.specs.Range.{Range, start, turn, finish}
use Rattle.classes.specs.Sizes.{contracts_size}
use Rattle.model.specs.Limits.{most_records}

abbrev pub mtm_to : List ℕ → (ℕ → ℤ) → (ℕ → ℤ) → ℕ → ℕ → ℕ → ℤ
mtm_to d n v k c m = sum_where m (marked_of d c) (mtm_of d n v k c)

module _ (d : List ℕ) (n v : ℕ → ℤ) (k c a b : ℕ) (r : Range d c a b) where
  abbrev marked : ℕ → Bool
  marked s = is_marked (series_type d s)

  pub mtm_start : pos 0 ≡ mtm_to d n v k c a
  mtm_start = start d c a b r marked (mtm_of d n v k c)

  pub mtm_turn : (s : ℕ) → a ≤ s → s < b → mtm_to d n v k c s +ℤ cond (marked s) (mtm_of d n v k c s) (pos 0) ≡ mtm_to d n v k c (s + 1)
  mtm_turn s p q = sym (turn d c a b r marked (mtm_of d n v k c) s p q)

  pub mtm_end : (s : ℕ) → s ≡ b → mtm_to d n v k c s ≡ mtm d n v k c
  unfolding mtm
  mtm_end s e = ap (mtm_to d n v k c) e ∙ finish d c a b r marked (mtm_of d n v k c)

module _ (d : List ℕ) (nets : List ℤ) (w : Given d nets) (k s : ℕ) (hk : k < 2) (hs : s < series_count d) where
  pub mtm_fits : (v : ℕ → ℤ) → Budget d (entry nets) v → nat_abs (security_mtm d (entry nets) v k s) < 2 ^ 63
  mtm_fits v u =
      omega (
        arith,
        nat_abs-- (worth d s (open_net (entry nets) k s) (pos (closing d s))) (open_dvp v k s),
        worth_bound d s (open_net (entry nets) k s) (pos (closing d s)) most_records (contracts_size d nets w k 0 s hk (omega arith) hs)
            (closing_limit d w.day.rows s hs),
        u.dvp_limit (position k 0 s) (omega (arith, w.day.series)),
        sum_n_at position_count u.records (position k 0 s) (omega (arith, w.day.series)),
        u.few,
      )
