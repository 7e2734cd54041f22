use Rattle.std.proofs.Common.{lit<}
use Rattle.additional.proofs.left.Goals as goal
use Rattle.numbers.specs.Quot.{quot_split}

pub returns : goal.returns
returns c = rw c.in_units.ensures (quot_split (lit< tt) c.args.size c.args.o)
