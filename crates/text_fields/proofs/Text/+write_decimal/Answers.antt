use Rattle.std.proofs.Common.{arith}
use Rattle.model.proofs.Digits.{digits_one, digits_more, tenth_length}
use Rattle.text_fields.specs.Writing.{room_left, wrote_then}
use Rattle.text_fields.proofs.Text.+write_decimal.Goals as goal

pub returns-then-n-lt10 : goal.returns-then-n-lt10
returns-then-n-lt10 t c = rw (digits_one c.args.n c.if-n-lt10.true) c.write_byte.ensures

pub write_byte-requires-2 : goal.write_byte-requires-2
write_byte-requires-2 t c = room_left c.write_decimal.ensures 1 (omega (arith, tenth_length c.args.n c.ranges.n.fits, c.requires))

pub returns : goal.returns
returns t c =
    rw (digits_more c.args.n c.if-n-lt10.false c.ranges.n.fits)
    (wrote_then c.write_decimal.ensures c.write_byte-2.ensures (omega (arith, tenth_length c.args.n c.ranges.n.fits, c.requires)))
