use Rattle.spread.specs.Parts.{non_spread_fits, non_spread_is}
use Rattle.spread.proofs.left.non_spread.Goals as goal

pub overflow_sub-result : goal.overflow_sub-result
overflow_sub-result c =
    let h = c.requires in
    non_spread_fits c.args.quantity c.args.before.short c.args.before.long c.args.net h.0 h.1 h.2 h.3 c.short_side.ensures c.long_side.ensures c.left_over-short.ensures c.left_over-long.ensures

pub returns : goal.returns
returns c =
    let h = c.requires in
    non_spread_is c.args.quantity c.args.before.short c.args.before.long c.args.net h.0 h.1 h.2 h.3 c.short_side.ensures c.long_side.ensures c.left_over-short.ensures c.left_over-long.ensures
