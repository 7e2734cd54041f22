use Rattle.std.proofs.Common.{refl, arith}
use Rattle.margin.proofs.group.Amounts.add.Goals as goal
use Rattle.numbers.specs.Machine.{add_is}

pub returns : goal.returns
returns c =
    let a = c.args.self in
    let b = c.args.more in
    let p = c.requires.small in
    let q = c.requires.small_2 in
    λ i.
    record {
      spread = add_is {u = a.spread} {v = b.spread} refl refl (omega (arith, p.spread_small, q.spread_small)) i;
      mtm = add_is {u = a.mtm} {v = b.mtm} refl refl (omega (arith, p.mtm_small, q.mtm_small)) i;
      premium = add_is {u = a.premium} {v = b.premium} refl refl (omega (arith, p.premium_small, q.premium_small)) i;
      minimum = add_is {u = a.minimum} {v = b.minimum} refl refl (omega (arith, p.minimum_small, q.minimum_small)) i;
      points = record { at = c.plus-sum.ensures i };
    }
