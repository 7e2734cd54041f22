use Rattle.std.proofs.Common.{◌≡◌, pos, get_or}
use Rattle.numbers.specs.Extremes.{largest}
use Rattle.additional.proofs.largest.Given as goal

abbrev pub invariant-loop-amount : goal.invariant-loop-amount
invariant-loop-amount l = l.most ≡ largest l.amount-index (λ j. get_or l.fn.points.at j (pos 0))
