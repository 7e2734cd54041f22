use Rattle.std.proofs.Common.{◌≡◌}
use Rattle.series_rows.specs.Presence.{presence}
use Rattle.series_rows.proofs.present_numbers.Given as goal

abbrev pub invariant-loop-c : goal.invariant-loop-c
invariant-loop-c l = l.present ≡ presence l.day l.c
