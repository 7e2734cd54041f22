use Rattle.std.proofs.Common.{◌≡◌, ◌+◌, ◌++◌, get_or, arith, ◌∙◌, ap, length-append}
use Rattle.model.specs.Words.{payload, bits}
use Rattle.model.specs.Printed.{number_field, amount_fields}
use Rattle.model.proofs.Digits.{decimal-length}
use Rattle.text_fields.specs.Fields.{fields_length}
use Rattle.text_fields.specs.Writing.{room_left, wrote_then}
use Rattle.text_lines.specs.Lines.{head_of, head_length, line_parts}
use Rattle.text_lines.proofs.write_line.Goals as goal

pub write_number-requires : goal.write_number-requires
write_number-requires c = room_left c.write_book.ensures 21 (omega (arith, head_length c.payload-key.result, c.requires.room))

pub write_amounts-requires-clause-room : goal.write_amounts-requires-clause-room
write_amounts-requires-clause-room c =
    room_left c.write_number.ensures 132
    (room_left c.write_book.ensures _ (omega (arith, head_length c.payload-key.result, decimal-length c.from.result, c.requires.room)))

pub write_byte-requires : goal.write_byte-requires
write_byte-requires c =
    let h₁ = head_length c.payload-key.result in
    let h₂ = decimal-length c.from.result in
    let h₃ = fields_length c.args.report.now (c.args.i + 1) 6 in
    room_left c.write_amounts.ensures 1 (room_left c.write_number.ensures _ (room_left c.write_book.ensures _ (omega (arith, c.requires.room))))

pub returns : goal.returns
returns c =
    let w = c.args.report.now in
    let p = c.payload-key.result in
    let k = c.from.result in
    let q : p ≡ payload (get_or w c.args.i 0) = c.payload-key.ensures ∙ ap payload c.word_at.ensures in
    let m : k ≡ bits p 0 5 = c.from.ensures ∙ c.bits.ensures in
    let f = amount_fields w (c.args.i + 1) 6 in
    let h₁ = head_length p in
    let h₂ = decimal-length k in
    let h₃ = fields_length w (c.args.i + 1) 6 in
    let h₄ = length-append (head_of p) (number_field k) in
    let h₅ = length-append (head_of p ++ number_field k) f in
    let b = wrote_then c.write_book.ensures c.write_number.ensures (omega (arith, c.requires.room)) in
    let a = wrote_then b c.write_amounts.ensures (omega (arith, c.requires.room)) in
    rw (line_parts w c.args.i, ← q, ← m) (wrote_then a c.write_byte.ensures (omega (arith, c.requires.room)))
