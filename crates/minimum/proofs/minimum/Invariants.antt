use Rattle.std.proofs.Common.{◌≡◌}
use Rattle.holdings.specs.Seen.{class_day, class_net, class_book}
use Rattle.minimum.specs.Types.{minimum_to}
use Rattle.minimum.proofs.minimum.Given as goal

abbrev pub invariant-loop-t : goal.invariant-loop-t
invariant-loop-t l = l.sum ≡ minimum_to (class_day l.class) (class_net l.class) (class_book l.class) l.class.class l.t-index
