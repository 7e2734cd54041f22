use Rattle.holdings.specs.Seen.{class_day, class_net, class_book}
use Rattle.std.proofs.Common.{◌≡◌}
use Rattle.model.specs.Steps.Spread.{long_before, short_before}
use Rattle.points.specs.Series.{points_to}
use Rattle.points.proofs.class_points.class_points.Given as goal

abbrev pub invariant-loop-s : goal.invariant-loop-s
invariant-loop-s l =
    record {
      sum : l.sum.at ≡ points_to (class_day l.fn.of.class.now) (class_net l.fn.of.class.now) (class_book l.fn.of.class.now) l.fn.of.class.now.class l.s;
      short : l.before.short ≡ short_before (class_day l.fn.of.class.now) (class_net l.fn.of.class.now) (class_book l.fn.of.class.now) l.fn.of.class.now.class l.s;
      long : l.before.long ≡ long_before (class_day l.fn.of.class.now) (class_net l.fn.of.class.now) (class_book l.fn.of.class.now) l.fn.of.class.now.class l.s;
    }
