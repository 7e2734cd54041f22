use Rattle.std.proofs.Common.{◌≡◌}
use Rattle.numbers.specs.Scan.{any_below}
use Rattle.model.specs.DayChecks.{projected_falls}
use Rattle.day_classes.proofs.prices_out_of_order.Given as goal

abbrev pub invariant-loop-k : goal.invariant-loop-k
invariant-loop-k l = l.falls ≡ any_below l.k (projected_falls l.fn.class.day.now l.fn.class.place)
