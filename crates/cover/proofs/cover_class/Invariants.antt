use Rattle.std.proofs.Common.{◌≡◌}
use Rattle.holdings.specs.Seen.{day_of, net_of}
use Rattle.cover.specs.Covered.{covered_to}
use Rattle.cover.proofs.cover_class.Given as goal

abbrev pub invariant-loop-s : goal.invariant-loop-s
invariant-loop-s l = l.after ≡ covered_to (day_of l.order.account.now.holdings.now) l.order.account.now.deposits.now (net_of l.order.account.now.holdings.now) l.s
