use Rattle.std.proofs.Common.{◌++◌, arith, length-append}
use Rattle.model.specs.Printed.{number_field, refused_head, refusal_text}
use Rattle.model.proofs.Digits.{decimal-length}
use Rattle.text_fields.specs.Writing.{room_left, wrote_then}
use Rattle.text.proofs.lines.write_refusal.Goals as goal

pub write_number-requires : goal.write_number-requires
write_number-requires c = room_left c.write_head.ensures 21 (omega (arith, c.requires))

pub write_number-requires-2 : goal.write_number-requires-2
write_number-requires-2 c = room_left c.write_number.ensures 21 (room_left c.write_head.ensures _ (omega (arith, decimal-length c.args.number, c.requires)))

pub write_byte-requires : goal.write_byte-requires
write_byte-requires c =
    let h₁ = decimal-length c.args.number in
    let h₂ = decimal-length c.args.place in
    room_left c.write_number-2.ensures 1 (room_left c.write_number.ensures _ (room_left c.write_head.ensures _ (omega (arith, c.requires))))

pub returns : goal.returns
unfolding refusal_text
returns c =
    let n = number_field c.args.number in
    let h₁ = decimal-length c.args.number in
    let h₂ = decimal-length c.args.place in
    let h₃ = length-append refused_head n in
    let h₄ = length-append (refused_head ++ n) (number_field c.args.place) in
    let a = wrote_then c.write_head.ensures c.write_number.ensures (omega (arith, c.requires)) in
    let b = wrote_then a c.write_number-2.ensures (omega (arith, c.requires)) in
    wrote_then b c.write_byte.ensures (omega (arith, c.requires))
