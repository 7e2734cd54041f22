use Rattle.std.proofs.Common.{◌≡◌}
use Rattle.classes.specs.Range.{start_of}
use Rattle.holdings.specs.Seen.{day_of, net_of}
use Rattle.cover.specs.Covered.{covered_to}
use Rattle.cover.proofs.cover.Given as goal

abbrev pub invariant-loop-c : goal.invariant-loop-c
invariant-loop-c l = l.after ≡ covered_to (day_of l.fn.account.holdings.now) l.fn.account.deposits.now (net_of l.fn.account.holdings.now) (start_of (day_of l.fn.account.holdings.now) l.c)
