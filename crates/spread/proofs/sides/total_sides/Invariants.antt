use Rattle.holdings.specs.Seen.{class_day, class_net, class_book}
use Rattle.std.proofs.Common.{◌≡◌}
use Rattle.spread.proofs.sides.total_sides.Given as goal
use Rattle.model.specs.Steps.Spread.{long_before, short_before}

abbrev pub invariant-loop-s : goal.invariant-loop-s
invariant-loop-s l =
    record {
      short : l.sum.short ≡ short_before (class_day l.class) (class_net l.class) (class_book l.class) l.class.class l.s;
      long : l.sum.long ≡ long_before (class_day l.class) (class_net l.class) (class_book l.class) l.class.class l.s;
    }
