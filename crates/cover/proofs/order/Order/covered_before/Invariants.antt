use Rattle.std.proofs.Common.{◌≡◌}
use Rattle.holdings.specs.Seen.{day_of, net_of}
use Rattle.cover.proofs.order.Order.covered_before.Given as goal
use Rattle.cover.specs.Before.{before_to}

abbrev pub invariant-loop-t : goal.invariant-loop-t
invariant-loop-t l = l.sum ≡ before_to (day_of l.self.account.now.holdings.now) (net_of l.self.account.now.holdings.now) l.s l.t
