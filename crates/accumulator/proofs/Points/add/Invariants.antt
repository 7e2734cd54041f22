use Rattle.std.proofs.Common.{◌≡◌, pos, get_or}
use Rattle.model.specs.Limits.{point_count}
use Rattle.numbers.specs.Filling.{filled}
use Rattle.accumulator.specs.Added.{added_at}
use Rattle.accumulator.proofs.Points.add.Given as goal

abbrev pub invariant-loop-k : goal.invariant-loop-k
invariant-loop-k l =
    l.next.at ≡ filled point_count (added_at l.fn.self.at l.position.contracts l.position.base l.position.prices) (λ i. get_or l.fn.self.at i (pos 0)) l.k
