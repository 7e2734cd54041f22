-- The words that a memory of bytes has room for, no more than the longest report has.
use Rattle.std.specs.Prelude.{ℕ, ◌*◌, ◌/◌, ◌≤◌, min}
use Rattle.std.proofs.Common.{arith}
use Rattle.model.specs.Report.{longest_report}

abbrev pub room_of : ℕ → ℕ
room_of len = min (len / 4) longest_report

pub room_most : (len : ℕ) → room_of len ≤ longest_report
room_most len = omega arith

pub room_fits : (len : ℕ) → 4 * room_of len ≤ len
room_fits len = omega arith
