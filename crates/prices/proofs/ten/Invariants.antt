use Rattle.std.proofs.Common.{◌≡◌, ◌+◌, get_or}
use Rattle.numbers.specs.Filling.{filled}
use Rattle.model.specs.Words.{payload}
use Rattle.model.specs.Limits.{point_count}
use Rattle.prices.proofs.ten.Given as goal

abbrev pub invariant-loop-k : goal.invariant-loop-k
invariant-loop-k l = l.row ≡ filled point_count (λ j. payload (get_or l.day (l.i + j) 0)) (λ j. 0) l.k
