use Rattle.std.proofs.Common.{◌≡◌, nat_abs, ap, ◌∙◌, to_z-of_z, arith}
use Rattle.model.proofs.Digits.{decimal-length, signed_minus, signed_plain}
use Rattle.text_fields.specs.Writing.{room_left, wrote_then}
use Rattle.text_fields.proofs.Text.write_signed.Goals.{then-z-lt0, else-z-lt0}
use Rattle.text_fields.proofs.Text.write_signed.Goals as goal

pub write_decimal-requires : goal.write_decimal-requires
write_decimal-requires c =
    elim c.if-z-lt0.branch [ then-z-lt0 w ↦ rw w.self-is (room_left w.write_byte.ensures 20 (omega arith)) | else-z-lt0 w ↦ rw w.self-is (omega arith) ]

pub returns : goal.returns
returns c =
    let z = c.args.z in
    let back = to_z-of_z c.ranges.z in
    let n : c.unsigned_abs.result ≡ nat_abs z = c.unsigned_abs.ensures.value ∙ ap nat_abs back in
    elim c.if-z-lt0.branch [
      | then-z-lt0 w ↦
          let e = signed_minus z (rw back at w.if-z-lt0.true) in
          rw (e, ← n) (wrote_then w.write_byte.ensures (rw w.self-is at c.write_decimal.ensures) (omega (arith, decimal-length c.unsigned_abs.result, c.requires)))
      | else-z-lt0 w ↦
          let e = signed_plain z (rw back at w.if-z-lt0.false) in
          rw (e, ← n) (rw w.self-is at c.write_decimal.ensures)
    ]
