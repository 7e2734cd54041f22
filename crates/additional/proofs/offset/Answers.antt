use Rattle.std.proofs.Common.{rules, ◌≡◌, ℕ, ◌<◌, pos, get_or, length, List, ℤ, ap, ◌∙◌, arith, set}
use Rattle.model.specs.Steps.Additional.{after_offset}
use Rattle.model.specs.Limits.{point_count}
use Rattle.numbers.specs.Abs.{back, told}
use Rattle.numbers.specs.Filling.{filled_all, filled_at, filled_more, filled_none, tabulate-get_or}
use Rattle.additional.proofs.offset.Goals as goal

abbrev old : List ℤ → ℕ → ℤ
old a k = get_or a k (pos 0)

abbrev new : ℕ → List ℤ → ℕ → ℤ
new p a k = after_offset p (old a k)

pub loop-k-init : goal.loop-k-init
loop-k-init c =
    let a = c.args.points.at in
    let l : length a ≡ point_count = search rules in
    tabulate-get_or a point_count (pos 0) l ∙ filled_none point_count (new c.args.o a) (old a)

pub after_offset-requires : goal.after_offset-requires
after_offset-requires c =
    let a = c.args.points.at in
    let k = c.loop-k.k in
    let h : k < point_count = omega arith in
    let was = ap (λ x. get_or x k (pos 0)) c.loop-k.invariant ∙ filled_at point_count (new c.args.o a) (old a) k (pos 0) h in
    (search rules, rw (back was (omega (arith, c.requires.by_index k h))) (c.requires.by_index k h))

pub loop-k-preserved : goal.loop-k-preserved
loop-k-preserved c =
    let a = c.args.points.at in
    let k = c.loop-k.k in
    let h : k < point_count = omega arith in
    let was = ap (λ x. get_or x k (pos 0)) c.loop-k.invariant ∙ filled_at point_count (new c.args.o a) (old a) k (pos 0) h in
    let after = told c.after_offset.type_inv (c.after_offset.ensures ∙ ap (after_offset c.args.o) (back was (omega (arith, c.requires.by_index k h)))) in
    (λ i. set (c.loop-k.invariant i) k (after i)) ∙ filled_more point_count (new c.args.o a) (old a) k h

pub returns : goal.returns
returns c = c.loop-k.invariant ∙ filled_all point_count (new c.args.o c.args.points.at) (old c.args.points.at) c.loop-k.k c.loop-k-test.false
