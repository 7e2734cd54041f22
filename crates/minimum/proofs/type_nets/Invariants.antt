use Rattle.std.proofs.Common.{◌≡◌}
use Rattle.holdings.specs.Seen.{class_day, class_net, class_book}
use Rattle.minimum.specs.Types.{types_to}
use Rattle.minimum.proofs.type_nets.Given as goal

abbrev pub invariant-loop-s : goal.invariant-loop-s
invariant-loop-s l = l.sums ≡ types_to (class_day l.class) (class_net l.class) (class_book l.class) l.class.class l.s
