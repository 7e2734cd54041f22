-- Step 7: minimum margin, and the additional requirement.
use Rattle.std.specs.Prelude.{cond, List, ℕ, ◌+◌, ℤ, pos, ◌*ℤ◌}
use Rattle.numbers.specs.Sums.{sum_to, sum_where}
use Rattle.numbers.specs.Extremes.{max_z, abs_z}
use Rattle.model.specs.DayFile.{option_rate, future_rate, equity_rate, warrant_rate, rights_rate, series_count, is_future, is_option, is_equity, is_warrant, is_rights}
use Rattle.model.specs.Steps.Positions.{open_net}
use Rattle.model.specs.Steps.Classes.{type_of, over_classes}
use Rattle.model.specs.Steps.Additional.{additional}

-- types 1 to 6 have a minimum
abbrev pub minimum_types : ℕ
minimum_types = 6

-- the rate of a type, 0 for another
unfoldable pub minimum_rate : List ℕ → ℕ → ℕ → ℕ
minimum_rate d c t =
    cond (is_future t) (future_rate d c)
    (cond (is_option t) (option_rate d c)
    (cond (is_equity t) (equity_rate d c) (cond (is_warrant t) (warrant_rate d c) (cond (is_rights t) (rights_rate d c) 0))))

module _ (d : List ℕ) (net : ℕ → ℤ) (book : ℕ) where
  -- the open nets of a class summed within a type
  unfoldable pub type_net : ℕ → ℕ → ℤ
  type_net c t = sum_where (series_count d) (type_of d c t) (open_net net book)

  -- of a class: over those types, the absolute value of that sum times the type's rate
  unfoldable pub minimum : ℕ → ℤ
  minimum c = sum_to minimum_types (λ i. abs_z (type_net c (i + 1)) *ℤ pos (minimum_rate d c (i + 1)))

  -- of a group: the sum over its classes
  unfoldable pub group_minimum : ℕ → ℤ
  group_minimum g = over_classes d g minimum

  -- additional requirement: the larger of additional and minimum
  unfoldable pub requirement : ℕ → ℤ
  requirement g = max_z (additional d net book g) (group_minimum g)
