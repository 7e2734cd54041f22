use Rattle.holdings.specs.Seen.{class_day, class_net, class_book}
use Rattle.std.specs.Prelude.{None}
use Rattle.std.proofs.Common.{◌≡◌}
use Rattle.spread.proofs.spot.spot_size.Given as goal
use Rattle.model.specs.Steps.Spread.{held_future}
use Rattle.numbers.specs.Scan.{first_bad}

abbrev pub invariant-loop-s : goal.invariant-loop-s
invariant-loop-s l =
    first_bad (held_future (class_day l.class) (class_net l.class) (class_book l.class) l.class.class) l.s ≡ None
