use Rattle.std.proofs.Common.{◌≡◌, ◌%◌, ◌*◌, length, arith, nat_abs, ap, ◌∙◌, ltb}
use Rattle.numbers.specs.Table.{length-tabulate}
use Rattle.model.specs.Limits.{position_limit}
use Rattle.model.specs.DayFile.{multiplier}
use Rattle.model.specs.Batch.{key, place}
use Rattle.model.specs.Netting.{places, position_count, net, row30}
use Rattle.net_check.specs.Sizes.{net_limit_lem, net_read}
use Rattle.net_check.proofs.too_large.Goals as goal

pub bounds-nets-k : goal.bounds-nets-k
bounds-nets-k c = omega (arith, c.key-k.ensures, ap length c.requires.nets_value, length-tabulate position_count (net c.args.batch.now.words.now))

pub net_too_large-requires : goal.net_too_large-requires
net_too_large-requires c =
    let b = c.args.batch.now.words.now in
    let v = c.record.ensures in
    let key_is = rw (v.0, v.1) at c.key-k.ensures in
    rw (net_read b c.args.nets.now c.key-k.result c.args.r c.args.batch.now.limited c.requires.nets_value key_is) (net_limit_lem b c.args.batch.now.limited (key b c.args.r))

pub returns : goal.returns
unfolding row30
returns c =
    let d = c.args.day.now in
    let b = c.args.batch.now.words.now in
    let r = c.args.r in
    let v = c.record.ensures in
    let key_is = rw (v.0, v.1) at c.key-k.ensures in
    let net_is = net_read b c.args.nets.now c.key-k.result r c.args.batch.now.limited c.requires.nets_value key_is in
    let placed : c.key-k.result % places ≡ place b r = omega (arith, key_is) in
    c.net_too_large.ensures ∙ (λ i. ltb position_limit (nat_abs (net_is i) * multiplier d (placed i)))
