-- What a day file that passed its checks is.
use Rattle.std.specs.Prelude.{◌≡◌, refl, true, List, ℕ, ◌+◌, ◌≤◌, ◌<◌, length, is_ok, Ok, Err}
use Rattle.std.proofs.Common.{arith}
use Rattle.model.specs.Outcomes.{Verdict}
use Rattle.model.specs.DayChecks.{day_check}
use Rattle.model.specs.DayFile.{class_count, series_count, class_at, series_at}
use Rattle.model.proofs.Accepted.{DayRows, day_checked, day_pass}
use Rattle.classes.specs.Tables.{Day, accepted_day, class_inside}

pub passed : (v : Verdict) → is_ok v ≡ true → v ≡ Ok tt
passed (Ok _) e = refl
passed (Err k) e = cc

-- the fact as a test, which a struct can hold
abbrev pub Checked : List ℕ → Type 0
Checked d = is_ok (day_check d) ≡ true

pub checked_passed : (d : List ℕ) → Checked d → day_check d ≡ Ok tt
checked_passed d e = passed (day_check d) e

pub checked_rows : (d : List ℕ) → Checked d → DayRows d
checked_rows d e = day_checked d (checked_passed d e)

-- nothing more than the rows is asked
pub rows_checked : (d : List ℕ) → DayRows d → Checked d
rows_checked d r = rw (day_pass d r) refl

pub checked_day : (d : List ℕ) → Checked d → Day d
checked_day d e = accepted_day d (checked_rows d e)

-- the words of its classes and series are there
pub class_there : (d : List ℕ) (c : ℕ) → Checked d → c < class_count d → class_at (c + 1) ≤ length d
class_there d c e h = class_inside (checked_day d e) h

pub series_there : (d : List ℕ) (s : ℕ) → Checked d → s < series_count d → series_at d (s + 1) ≤ length d
series_there d s e h = let w = checked_day d e in omega (arith, w.whole)
