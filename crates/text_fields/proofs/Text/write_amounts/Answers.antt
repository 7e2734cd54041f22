use Rattle.std.proofs.Common.{◌+◌, ◌*◌, arith}
use Rattle.numbers.specs.Abs.{told}
use Rattle.model.specs.Reading.{amount_in}
use Rattle.model.proofs.Digits.{signed_length}
use Rattle.text_fields.specs.Fields.{fields_none, fields_more, fields_length}
use Rattle.text_fields.specs.Writing.{wrote-none, room_left, wrote_then}
use Rattle.text_fields.proofs.Text.write_amounts.Goals as goal

pub loop-k-init : goal.loop-k-init
loop-k-init c = rw (fields_none c.args.report.now c.args.i) (wrote-none c.args.self.now)

pub write_amount-requires : goal.write_amount-requires
write_amount-requires c = room_left c.loop-k.invariant 22 (omega (arith, fields_length c.args.report.now c.args.i c.loop-k.k, c.requires.room))

pub loop-k-preserved : goal.loop-k-preserved
loop-k-preserved c =
    let w = c.args.report.now in
    let i = c.args.i in
    let k = c.loop-k.k in
    let one = rw (told c.amount_at.type_inv c.amount_at.ensures) at c.write_amount.ensures in
    rw (fields_more w i k)
    (wrote_then c.loop-k.invariant one (omega (arith, fields_length w i k, signed_length (amount_in w (i + 3 * k)), c.requires.room)))
