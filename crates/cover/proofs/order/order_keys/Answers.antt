use Rattle.std.proofs.Common.{◌<◌, ◌∙◌, arith, set}
use Rattle.holdings.specs.Facts.{day_accepted}
use Rattle.holdings.specs.Seen.{day_of, net_of}
use Rattle.cover.specs.Keys.{order_key}
use Rattle.cover.proofs.order.order_keys.Goals as goal
use Rattle.model.specs.Limits.{most_series}
use Rattle.numbers.specs.Filling.{filled_more, filled_none}
use Rattle.numbers.specs.Table.{replicate_tabulate}

pub loop-s-init : goal.loop-s-init
loop-s-init c =
    let h = c.args.before.now in
    replicate_tabulate most_series 0 ∙ filled_none most_series (order_key (day_of h) (net_of h)) (λ i. 0)

pub bounds-keys-s : goal.bounds-keys-s
bounds-keys-s c = omega (arith, (day_accepted c.args.before.now).series)

pub loop-s-preserved : goal.loop-s-preserved
loop-s-preserved c =
    let h = c.args.before.now in
    let few : c.loop-s.s < most_series = omega (arith, (day_accepted h).series) in
    (λ i. set (c.loop-s.invariant i) c.loop-s.s (c.order_key.ensures i)) ∙ filled_more most_series (order_key (day_of h) (net_of h)) (λ i. 0) c.loop-s.s few
