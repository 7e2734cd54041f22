use Rattle.holdings.specs.Seen.{class_day, class_net, class_book}
use Rattle.std.proofs.Common.{◌≡◌}
use Rattle.premium.specs.Laws.{premium_to}
use Rattle.premium.proofs.premium.Given as goal

abbrev pub invariant-loop-s : goal.invariant-loop-s
invariant-loop-s l = l.sum ≡ premium_to (class_day l.class) (class_net l.class) (class_book l.class) l.class.class l.s
