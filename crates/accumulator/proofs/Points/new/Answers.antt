use Rattle.std.proofs.Common.{pos}
use Rattle.numbers.specs.Table.{replicate_tabulate}
use Rattle.model.specs.Limits.{point_count}
use Rattle.accumulator.proofs.Points.new.Goals as goal

pub returns : goal.returns
returns c = replicate_tabulate point_count (pos 0)
