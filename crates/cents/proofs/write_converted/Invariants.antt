use Rattle.std.proofs.Common.{◌≡◌}
use Rattle.numbers.specs.Put.{put}
use Rattle.cents.specs.Converted.{batch_in}
use Rattle.cents.proofs.write_converted.Given as goal

abbrev pub invariant-loop-i : goal.invariant-loop-i
invariant-loop-i l = l.out ≡ put 0 (batch_in l.edition l.fn.batch l.header l.i) l.fn.out
