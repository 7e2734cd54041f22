use Rattle.std.proofs.Common.{length, ap, ◌∙◌, arith, nat_abs, ltb}
use Rattle.numbers.specs.Table.{length-tabulate}
use Rattle.model.specs.Limits.{dvp_amount_limit}
use Rattle.model.specs.Netting.{dvp, position_count}
use Rattle.model.specs.RewritingChecks.{row31}
use Rattle.dvp_check.specs.Sizes.{dvp_read}
use Rattle.dvp_check.proofs.too_large.Goals as goal

pub bounds-dvps-k : goal.bounds-dvps-k
bounds-dvps-k c = omega (arith, c.key-k.ensures, ap length c.requires.dvps_value, length-tabulate position_count (dvp c.args.batch.now.words.now))

pub returns : goal.returns
unfolding row31
returns c =
    let b = c.args.batch.now.words.now in
    let v = c.record.ensures in
    let key_is = rw (v.0, v.1) at c.key-k.ensures in
    c.dvp_too_large.ensures
    ∙ ap (λ z. ltb dvp_amount_limit (nat_abs z)) (dvp_read b c.args.dvps.now c.key-k.result c.args.r c.args.batch.now.limited c.requires.dvps_value key_is)
