use Rattle.holdings.specs.Seen.{class_day, class_net, class_dvp, class_book}
use Rattle.std.proofs.Common.{◌≡◌}
use Rattle.mtm.specs.Laws.{mtm_to}
use Rattle.mtm.proofs.mtm.Given as goal

abbrev pub invariant-loop-s : goal.invariant-loop-s
invariant-loop-s l = l.sum ≡ mtm_to (class_day l.class) (class_net l.class) (class_dvp l.class) (class_book l.class) l.class.class l.s
