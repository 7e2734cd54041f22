use Rattle.std.proofs.Common.{◌≡◌}
use Rattle.holdings.specs.Seen.{day_of, net_of}
use Rattle.cover.specs.Keys.{order_key}
use Rattle.cover.proofs.order.order_keys.Given as goal
use Rattle.model.specs.Limits.{most_series}
use Rattle.numbers.specs.Filling.{filled}

abbrev pub invariant-loop-s : goal.invariant-loop-s
invariant-loop-s l = l.keys ≡ filled most_series (order_key (day_of l.before) (net_of l.before)) (λ i. 0) l.s
