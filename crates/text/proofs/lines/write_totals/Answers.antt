use Rattle.std.proofs.Common.{arith, length-append}
use Rattle.model.specs.Printed.{amount_fields, total_head, totals_text}
use Rattle.text_fields.specs.Fields.{fields_length}
use Rattle.text_fields.specs.Writing.{room_left, wrote_then}
use Rattle.text.proofs.lines.write_totals.Goals as goal

pub write_amounts-requires-clause-room : goal.write_amounts-requires-clause-room
write_amounts-requires-clause-room c = room_left c.write_head.ensures 66 (omega (arith, c.requires.room))

pub write_byte-requires : goal.write_byte-requires
write_byte-requires c =
    room_left c.write_amounts.ensures 1
    (room_left c.write_head.ensures _ (omega (arith, fields_length c.args.report.now c.args.i 3, c.requires.room)))

pub returns : goal.returns
unfolding totals_text
returns c =
    let h₁ = fields_length c.args.report.now c.args.i 3 in
    let h₂ = length-append total_head (amount_fields c.args.report.now c.args.i 3) in
    let a = wrote_then c.write_head.ensures c.write_amounts.ensures (omega (arith, c.requires.room)) in
    wrote_then a c.write_byte.ensures (omega (arith, c.requires.room))
