use Rattle.std.proofs.Common.{◌≡◌, length}
use Rattle.numbers.specs.Table.{entry}
use Rattle.position_records.specs.Places.{records_to}
use Rattle.position_records.proofs.Positions.count_held.Given as goal

abbrev pub invariant-loop-i : goal.invariant-loop-i
invariant-loop-i l = l.held ≡ length (records_to (entry l.self.nets.now) (entry l.self.dvps.now) l.i)
