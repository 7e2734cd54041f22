use Rattle.std.proofs.Common.{arith, length-append}
use Rattle.model.specs.Printed.{number_field, margin_head, count_text}
use Rattle.model.proofs.Digits.{decimal-length}
use Rattle.text_fields.specs.Writing.{room_left, wrote_then}
use Rattle.text.proofs.lines.write_count.Goals as goal

pub write_number-requires : goal.write_number-requires
write_number-requires c = room_left c.write_head.ensures 21 (omega (arith, c.requires))

pub write_byte-requires : goal.write_byte-requires
write_byte-requires c = room_left c.write_number.ensures 1 (room_left c.write_head.ensures _ (omega (arith, decimal-length c.args.n, c.requires)))

pub returns : goal.returns
unfolding count_text
returns c =
    let h₁ = decimal-length c.args.n in
    let h₂ = length-append margin_head (number_field c.args.n) in
    let n = wrote_then c.write_head.ensures c.write_number.ensures (omega (arith, c.requires)) in
    wrote_then n c.write_byte.ensures (omega (arith, c.requires))
