use Rattle.std.specs.Prelude.{None}
use Rattle.std.proofs.Common.{◌≡◌}
use Rattle.numbers.specs.Scan.{first_bad}
use Rattle.model.specs.DayChecks.{row14}
use Rattle.day_classes.proofs.first_other_offset.Given as goal
use Rattle.day_classes.specs.Offsets.{Table}

abbrev pub invariant-loop-c : goal.invariant-loop-c
invariant-loop-c l = (first_bad (row14 l.fn.day.words.now) l.c ≡ None) × Table l.fn.day.words.now l.c l.last
