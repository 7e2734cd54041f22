use Rattle.std.proofs.Common.{◌≡◌, ◌<◌, pos, get_or, length, to_z, of_z, set, ap, ◌∙◌, refl, arith, rules}
use Rattle.std.specs.Int.{w64}
use Rattle.model.specs.Limits.{point_count}
use Rattle.numbers.specs.Abs.{back}
use Rattle.numbers.specs.Machine.{add_fits, add_is}
use Rattle.numbers.specs.Filling.{filled_all, filled_at, filled_more, filled_none, tabulate-get_or}
use Rattle.accumulator.specs.Added.{change_amount, added_at, change-size}
use Rattle.accumulator.proofs.Points.add.Goals as goal

pub loop-k-init : goal.loop-k-init
loop-k-init c =
    let a = c.args.self.at in
    let l : length a ≡ point_count = search rules in
    let p = c.args.position in
    tabulate-get_or a point_count (pos 0) l ∙ filled_none point_count (added_at a p.contracts p.base p.prices) (λ k. get_or a k (pos 0))

pub overflow_add-next : goal.overflow_add-next
overflow_add-next c =
    let a = c.args.self.at in
    let p = c.args.position in
    let k = c.loop-k.k in
    let h : k < point_count = omega arith in
    let same : to_z w64 (of_z w64 p.contracts) ≡ p.contracts = back refl (omega (arith, c.requires.contracts_bound.0)) in
    let amount = c.change_amount.ensures ∙ ap (λ z. change_amount z p.base (get_or p.prices k 0)) same in
    let was = ap (λ x. get_or x k (pos 0)) c.loop-k.invariant ∙ filled_at point_count (added_at a p.contracts p.base p.prices) (λ i. get_or a i (pos 0)) k (pos 0) h in
    add_fits was amount
    (omega (arith, change-size p.contracts p.base (get_or p.prices k 0) c.requires.contracts_bound.0 c.requires.contracts_bound.1 (c.requires.contracts_bound.2 k h), c.requires.by_index k h))

pub loop-k-preserved : goal.loop-k-preserved
loop-k-preserved c =
    let a = c.args.self.at in
    let p = c.args.position in
    let k = c.loop-k.k in
    let h : k < point_count = omega arith in
    let same : to_z w64 (of_z w64 p.contracts) ≡ p.contracts = back refl (omega (arith, c.requires.contracts_bound.0)) in
    let amount = c.change_amount.ensures ∙ ap (λ z. change_amount z p.base (get_or p.prices k 0)) same in
    let was = ap (λ x. get_or x k (pos 0)) c.loop-k.invariant ∙ filled_at point_count (added_at a p.contracts p.base p.prices) (λ i. get_or a i (pos 0)) k (pos 0) h in
    let sum = add_is was amount
    (omega (arith, change-size p.contracts p.base (get_or p.prices k 0) c.requires.contracts_bound.0 c.requires.contracts_bound.1 (c.requires.contracts_bound.2 k h), c.requires.by_index k h)) in
    (λ i. set (c.loop-k.invariant i) k (sum i)) ∙ filled_more point_count (added_at a p.contracts p.base p.prices) (λ i. get_or a i (pos 0)) k h

pub returns : goal.returns
returns c =
    let p = c.args.position in
    c.loop-k.invariant ∙ filled_all point_count (added_at c.args.self.at p.contracts p.base p.prices) (λ i. get_or c.args.self.at i (pos 0)) c.loop-k.k c.loop-k-test.false
