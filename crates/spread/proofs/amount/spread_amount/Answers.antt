use Rattle.spread.specs.Parts.{far_fits, parts_are, parts_fit}
use Rattle.spread.proofs.amount.spread_amount.Goals as goal

pub overflow_mul-result-2 : goal.overflow_mul-result-2
overflow_mul-result-2 c =
    let h = c.requires in
    far_fits c.args.spot c.args.quantity c.args.near_rate c.args.far_rate h.0 h.1 h.2 h.3 c.min-near.ensures.value c.from.ensures c.from-2.ensures

pub overflow_add-result : goal.overflow_add-result
overflow_add-result c =
    let h = c.requires in
    parts_fit c.args.spot c.args.quantity c.args.near_rate c.args.far_rate h.0 h.1 h.2 h.3 c.min-near.ensures.value c.from.ensures c.from-2.ensures

pub returns : goal.returns
returns c =
    let h = c.requires in
    parts_are c.args.spot c.args.quantity c.args.near_rate c.args.far_rate h.0 h.1 h.2 h.3 c.min-near.ensures.value c.from.ensures c.from-2.ensures
