-- Step 3: mark-to-market of securities, and of expired futures (U9).
use Rattle.std.specs.Prelude.{cond, List, ℕ, ℤ, pos, ◌-ℤ◌}
use Rattle.numbers.specs.Sums.{sum_where}
use Rattle.model.specs.DayFile.{underlying, series_count, series_type, delivery_price, closing, is_security}
use Rattle.model.specs.Steps.Positions.{open_net, open_dvp}
use Rattle.model.specs.Steps.Classes.{marked_of, worth}

-- of an expired future of class c: net × multiplier × (underlying − delivery price)
abbrev pub expired_mtm : List ℕ → (ℕ → ℤ) → ℕ → ℕ → ℕ → ℤ
expired_mtm d net book c s = worth d s (open_net net book s) (pos (underlying d c) -ℤ pos (delivery_price d s))

module _ (d : List ℕ) (net dvp : ℕ → ℤ) (book : ℕ) where
  -- of a security: net × multiplier × closing price − DVP
  abbrev pub security_mtm : ℕ → ℤ
  security_mtm s = worth d s (open_net net book s) (pos (closing d s)) -ℤ open_dvp dvp book s

  -- of either
  abbrev pub mtm_of : ℕ → ℕ → ℤ
  mtm_of c s = cond (is_security (series_type d s)) (security_mtm s) (expired_mtm d net book c s)

  -- of a class
  unfoldable pub mtm : ℕ → ℤ
  mtm c = sum_where (series_count d) (marked_of d c) (mtm_of c)
