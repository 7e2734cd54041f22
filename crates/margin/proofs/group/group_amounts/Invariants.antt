use Rattle.std.proofs.Common.{◌≡◌}
use Rattle.holdings.specs.Seen.{group_day, group_net, group_dvp, group_book}
use Rattle.margin.specs.Groups.{amounts_below}
use Rattle.margin.proofs.group.group_amounts.Given as goal

abbrev pub invariant-loop-c : goal.invariant-loop-c
invariant-loop-c l = l.sum ≡ amounts_below (group_day l.fn.held) (group_net l.fn.held) (group_dvp l.fn.held) (group_book l.fn.held) l.fn.held.group l.c
