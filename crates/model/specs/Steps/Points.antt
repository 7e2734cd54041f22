-- Step 5: the amounts of a class at the ten points.
use Rattle.std.specs.Prelude.{cond, List, ℕ, ℤ, pos, ◌+ℤ◌, ◌-ℤ◌}
use Rattle.numbers.specs.Sums.{sum_where}
use Rattle.model.specs.DayFile.{underlying, projected, series_count, series_type, closing, is_future, is_expired}
use Rattle.model.specs.Steps.Positions.{open_net, exercised_net}
use Rattle.model.specs.Steps.Classes.{of_class, worth, signed_by_type}
use Rattle.model.specs.Steps.Spread.{non_spread}
use Rattle.model.specs.Steps.Prices.{open_price}

-- projected underlying − underlying of class c at point k
abbrev pub underlying_change : List ℕ → ℕ → ℕ → ℤ
underlying_change d c k = pos (projected d c k) -ℤ pos (underlying d c)

-- the price change of an open position of net z at point k: that of the underlying for an expired future (U9), else the price used − closing price
abbrev pub open_change : List ℕ → ℕ → ℕ → ℤ → ℕ → ℤ
open_change d c s z k = cond (is_expired (series_type d s)) (underlying_change d c k) (pos (open_price d s z k) -ℤ pos (closing d s))

-- of an exercised or assigned one: that of the underlying for a call, the negative for a put
abbrev pub exercised_change : List ℕ → ℕ → ℕ → ℕ → ℤ
exercised_change d c s k = signed_by_type (series_type d s) (underlying_change d c k)

module _ (d : List ℕ) (net : ℕ → ℤ) (book : ℕ) where
  -- the open net that counts: open futures with only their non-spread net
  unfoldable pub counted_net : ℕ → ℕ → ℤ
  counted_net c s = cond (is_future (series_type d s)) (non_spread d net book c s) (open_net net book s)

  -- what the positions of series s, open and exercised or assigned, add at point k: net × multiplier × change
  abbrev pub point_of : ℕ → ℕ → ℕ → ℤ
  point_of c k s =
      worth d s (counted_net c s) (open_change d c s (counted_net c s) k) +ℤ worth d s (exercised_net net book s) (exercised_change d c s k)

  -- the class's amount at point k: each of its positions adds to what begins as zero
  unfoldable pub class_point : ℕ → ℕ → ℤ
  class_point c k = sum_where (series_count d) (of_class d c) (point_of c k)
