use Rattle.std.proofs.Common.{arith}
use Rattle.model.proofs.Digits.{decimal-length}
use Rattle.text_fields.specs.Writing.{room_left, wrote_then}
use Rattle.text_fields.proofs.Text.write_number.Goals as goal

pub write_decimal-requires : goal.write_decimal-requires
write_decimal-requires c = room_left c.write_byte.ensures 20 (omega arith)

pub returns : goal.returns
returns c = wrote_then c.write_byte.ensures c.write_decimal.ensures (omega (arith, decimal-length c.args.n, c.requires))
