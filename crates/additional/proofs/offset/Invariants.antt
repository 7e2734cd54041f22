use Rattle.std.proofs.Common.{◌≡◌, ℕ, pos, get_or, ℤ, List}
use Rattle.model.specs.Steps.Additional.{after_offset}
use Rattle.model.specs.Limits.{point_count}
use Rattle.additional.proofs.offset.Given as goal
use Rattle.numbers.specs.Filling.{filled}

abbrev new : ℕ → List ℤ → ℕ → ℤ
new p a k = after_offset p (get_or a k (pos 0))

abbrev pub invariant-loop-k : goal.invariant-loop-k
invariant-loop-k l = l.next.at ≡ filled point_count (new l.o l.initial.next.at) (λ i. get_or l.initial.next.at i (pos 0)) l.k
