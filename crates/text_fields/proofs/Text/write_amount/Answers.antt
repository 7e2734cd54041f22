use Rattle.std.proofs.Common.{to_z-of_z, arith}
use Rattle.model.proofs.Digits.{signed_length}
use Rattle.text_fields.specs.Writing.{room_left, wrote_then}
use Rattle.text_fields.proofs.Text.write_amount.Goals as goal

pub write_signed-requires : goal.write_signed-requires
write_signed-requires c = room_left c.write_byte.ensures 21 (omega arith)

pub returns : goal.returns
returns c =
    let z = to_z-of_z c.ranges.z in
    wrote_then c.write_byte.ensures (rw z at c.write_signed.ensures) (omega (arith, signed_length c.args.z, c.requires))
