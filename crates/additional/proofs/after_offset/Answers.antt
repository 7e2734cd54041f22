use Rattle.std.proofs.Common.{◌≡◌, ℕ, ◌*◌, ◌/◌, ◌<◌, ◌^◌, pos, neg_ℤ, nat_abs, to_z-of_z, sym, ap, ◌∙◌, arith, mul-le-mul, le_refl}
use Rattle.model.specs.Limits.{whole_offset}
use Rattle.model.proofs.Offsets.{credit-after, debit_after}
use Rattle.words.specs.Signed.{less_back}
use Rattle.additional.proofs.after_offset.Goals as goal

pub returns-then-amount-lt0 : goal.returns-then-amount-lt0
returns-then-amount-lt0 c =
    let z = c.args.amount in
    let o = c.args.o in
    let size = c.unsigned_abs.ensures.value ∙ ap nat_abs (to_z-of_z c.ranges.amount) in
    let left : c.left.result ≡ nat_abs z * o / whole_offset = c.left.ensures ∙ (λ i. size i * c.from.ensures i / whole_offset) in
    let small : c.left.result < 2 ^ 63 = omega (arith, left, c.requires.1, mul-le-mul (le_refl (nat_abs z)) c.requires.0) in
    let below = rw (to_z-of_z c.ranges.amount) at c.if-amount-lt0.true in
    less_back c.left.result small ∙ ap (λ (n : ℕ). neg_ℤ (pos n)) left ∙ sym (credit-after o z below)

pub returns : goal.returns
returns c =
    let e = to_z-of_z c.ranges.amount in
    e ∙ sym (debit_after c.args.o c.args.amount (rw e at c.if-amount-lt0.false))
