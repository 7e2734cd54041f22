use Rattle.std.proofs.Common.{◌≡◌, ℕ, pos, ◌+ℤ◌, get_or, ℤ, List}
use Rattle.model.specs.Limits.{point_count}
use Rattle.additional.proofs.plus.Given as goal
use Rattle.numbers.specs.Filling.{filled}

abbrev new : List ℤ → List ℤ → ℕ → ℤ
new a b k = get_or a k (pos 0) +ℤ get_or b k (pos 0)

abbrev pub invariant-loop-k : goal.invariant-loop-k
invariant-loop-k l = l.next.at ≡ filled point_count (new l.fn.points.at l.more.at) (λ i. get_or l.fn.points.at i (pos 0)) l.k
