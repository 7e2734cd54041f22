-- Step 9: which groups have a line in a book, and the book's total.
use Rattle.std.specs.Prelude.{Bool, ◌&&◌, ◌||◌, List, ℕ, eqb, ℤ}
use Rattle.numbers.specs.Scan.{any_below}
use Rattle.numbers.specs.Sums.{sum_where}
use Rattle.model.specs.DayFile.{series_count, series_group}
use Rattle.model.specs.Netting.{position}
use Rattle.model.specs.Steps.Positions.{held}
use Rattle.model.specs.Steps.Margin.{margin}
use Rattle.model.specs.Limits.{group_count}

module _ (d : List ℕ) (net dvp : ℕ → ℤ) (book : ℕ) where
  -- series s is of group g, and its open or its exercised or assigned position has net or DVP not zero
  unfoldable pub held_in : ℕ → ℕ → Bool
  held_in g s = eqb (series_group d s) g && (held net dvp (position book 0 s) || held net dvp (position book 1 s))

  -- group g has a line in this book
  unfoldable pub has_line : ℕ → Bool
  has_line g = any_below (series_count d) (held_in g)

-- which groups have a line goes by `net`, the amounts by `after`
module _ (d : List ℕ) (net after dvp : ℕ → ℤ) (book : ℕ) where
  -- the book's total: its lines' margins added; residual credit lowers no other line (house rule)
  unfoldable pub total : ℤ
  total = sum_where group_count (has_line d net dvp book) (margin d after dvp book)
