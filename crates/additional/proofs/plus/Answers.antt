use Rattle.std.proofs.Common.{rules, refl, ◌≡◌, ℕ, ◌<◌, pos, ◌+ℤ◌, get_or, length, List, ℤ, ap, ◌∙◌, arith, set}
use Rattle.model.specs.Limits.{point_count}
use Rattle.numbers.specs.Filling.{filled_all, filled_at, filled_more, filled_none, tabulate-get_or}
use Rattle.numbers.specs.Machine.{add_fits, add_is}
use Rattle.additional.proofs.plus.Goals as goal

abbrev old : List ℤ → ℕ → ℤ
old a k = get_or a k (pos 0)

abbrev new : List ℤ → List ℤ → ℕ → ℤ
new a b k = old a k +ℤ old b k

pub loop-k-init : goal.loop-k-init
loop-k-init c =
    let a = c.args.points.at in
    let l : length a ≡ point_count = search rules in
    tabulate-get_or a point_count (pos 0) l ∙ filled_none point_count (new a c.args.more.at) (old a)

pub overflow_add-next : goal.overflow_add-next
overflow_add-next c =
    let a = c.args.points.at in
    let b = c.args.more.at in
    let k = c.loop-k.k in
    let h : k < point_count = omega arith in
    let was = ap (λ x. get_or x k (pos 0)) c.loop-k.invariant ∙ filled_at point_count (new a b) (old a) k (pos 0) h in
    let more : old b k ≡ old b k = refl in
    add_fits was more (omega (arith, c.requires.by_index k h, c.requires.by_index_2 k h))

pub loop-k-preserved : goal.loop-k-preserved
loop-k-preserved c =
    let a = c.args.points.at in
    let b = c.args.more.at in
    let k = c.loop-k.k in
    let h : k < point_count = omega arith in
    let was = ap (λ x. get_or x k (pos 0)) c.loop-k.invariant ∙ filled_at point_count (new a b) (old a) k (pos 0) h in
    let more : old b k ≡ old b k = refl in
    let sum = add_is was more (omega (arith, c.requires.by_index k h, c.requires.by_index_2 k h)) in
    (λ i. set (c.loop-k.invariant i) k (sum i)) ∙ filled_more point_count (new a b) (old a) k h

pub returns : goal.returns
returns c = c.loop-k.invariant ∙ filled_all point_count (new c.args.points.at c.args.more.at) (old c.args.points.at) c.loop-k.k c.loop-k-test.false
