-- What the functions of the steps are given: an accepted day file, and a table of nets by position key that keeps within a budget.
use Rattle.std.specs.Prelude.{List, ◌≡◌, ℕ, ◌+◌, ◌≤◌, ◌<◌, ℤ, length}
use Rattle.std.proofs.Common.{arith}
pub use Rattle.numbers.specs.Table.{entry}
use Rattle.model.specs.DayFile.{class_count, series_count, class_at, day_words}
use Rattle.model.proofs.Accepted.{DayRows}
use Rattle.model.proofs.Limits.{day-length}
use Rattle.model.proofs.Nets.{few_series, few_classes}
use Rattle.model.proofs.Records.{Budget}
use Rattle.model.specs.Limits.{most_classes, most_series}

-- an accepted day file, and its counts
pub record Day (d : List ℕ) : Type 0 where
  pub rows : DayRows d
  pub whole : length d ≡ day_words (class_count d) (series_count d)
  pub classes : class_count d ≤ most_classes
  pub series : series_count d ≤ most_series

-- with a table of nets
pub record Given (d : List ℕ) (nets : List ℤ) : Type 0 where
  pub day : Day d
  pub dvp : ℕ → ℤ
  pub budget : Budget d (entry nets) dvp

-- the record of a class is inside
pub class_inside : {d : List ℕ} → Day d → {c : ℕ} → c < class_count d → class_at (c + 1) ≤ length d
class_inside w h = omega (arith, w.whole)

-- what accepted files give
pub accepted_day : (d : List ℕ) → DayRows d → Day d
accepted_day d r = record { rows = r; whole = day-length d r; classes = few_classes d r; series = few_series d r }

pub given : (d : List ℕ) (nets : List ℤ) (v : ℕ → ℤ) → DayRows d → Budget d (entry nets) v → Given d nets
given d nets v r w = record { day = accepted_day d r; dvp = v; budget = w }
