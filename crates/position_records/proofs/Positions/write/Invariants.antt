use Rattle.std.proofs.Common.{◌≡◌, length}
use Rattle.numbers.specs.Table.{entry}
use Rattle.position_records.specs.Places.{records_to, written_to}
use Rattle.position_records.proofs.Positions.write.Given as goal

abbrev pub invariant-loop-i : goal.invariant-loop-i
invariant-loop-i l =
    record {
      count : l.count ≡ length (records_to (entry l.self.nets.now) (entry l.self.dvps.now) l.i);
      memory : l.out ≡ written_to (entry l.self.nets.now) (entry l.self.dvps.now) l.fn.out l.i;
    }
