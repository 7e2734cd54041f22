-- Step 4: premium of options.
use Rattle.std.specs.Prelude.{List, ℕ, ℤ, pos, ◌+ℤ◌, ◌-ℤ◌}
use Rattle.numbers.specs.Sums.{sum_where}
use Rattle.model.specs.DayFile.{underlying, series_count, series_type, strike, closing}
use Rattle.model.specs.Steps.Positions.{open_net, exercised_net}
use Rattle.model.specs.Steps.Classes.{option_of, worth, signed_by_type}

-- the in-the-money amount of option s of class c: underlying − strike for a call, strike − underlying for a put, negative where it is so
abbrev pub in_the_money : List ℕ → ℕ → ℕ → ℤ
in_the_money d c s = signed_by_type (series_type d s) (pos (underlying d c) -ℤ pos (strike d s))

module _ (d : List ℕ) (net : ℕ → ℤ) (book : ℕ) where
  -- of an option: open net × multiplier × closing price, and exercised or assigned net × multiplier × in-the-money amount
  abbrev pub premium_of : ℕ → ℕ → ℤ
  premium_of c s = worth d s (open_net net book s) (pos (closing d s)) +ℤ worth d s (exercised_net net book s) (in_the_money d c s)

  -- of a class
  unfoldable pub premium : ℕ → ℤ
  premium c = sum_where (series_count d) (option_of d c) (premium_of c)
