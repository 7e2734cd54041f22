use Rattle.spread.specs.Parts.{left_fits, left_is}
use Rattle.spread.proofs.left.left_over.Goals as goal

pub overflow_sub-result : goal.overflow_sub-result
overflow_sub-result c =
    let h = c.requires in
    left_fits c.args.quantity c.args.before c.args.size h.0 h.1 h.2 c.max-rest.ensures.value c.min.ensures.value

pub returns : goal.returns
returns c =
    let h = c.requires in
    left_is c.args.quantity c.args.before c.args.size h.0 h.1 h.2 c.max-rest.ensures.value c.min.ensures.value
