use Rattle.std.proofs.Common.{◌+◌, get_or, set, ◌∙◌, arith}
use Rattle.numbers.specs.Table.{replicate_tabulate}
use Rattle.numbers.specs.Filling.{filled_none, filled_more, filled_all}
use Rattle.model.specs.Words.{payload}
use Rattle.model.specs.Limits.{point_count}
use Rattle.prices.proofs.ten.Goals as goal

pub loop-k-init : goal.loop-k-init
loop-k-init c =
    let d = c.args.day.now in
    replicate_tabulate point_count 0 ∙ filled_none point_count (λ j. payload (get_or d (c.args.i + j) 0)) (λ j. 0)

pub loop-k-preserved : goal.loop-k-preserved
loop-k-preserved c =
    let d = c.args.day.now in
    (λ i. set (c.loop-k.invariant i) c.loop-k.k (c.payload.ensures i))
    ∙ filled_more point_count (λ j. payload (get_or d (c.args.i + j) 0)) (λ j. 0) c.loop-k.k (omega arith)

pub returns : goal.returns
returns c =
    let d = c.args.day.now in
    c.loop-k.invariant ∙ filled_all point_count (λ j. payload (get_or d (c.args.i + j) 0)) (λ j. 0) c.loop-k.k c.loop-k-test.false
