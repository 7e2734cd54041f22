use Rattle.std.proofs.Common.{◌∙◌, to_z-of_z}
use Rattle.model.specs.TextReading.{account_read, fail_read}
use Rattle.text_parts.specs.ReadingSteps.{amount_told, AmountTold, part}
use Rattle.text_last_line.proofs.read_fail.Goals as goal

pub returns-in_err-fail : goal.returns-in_err-fail
unfolding fail_read
returns-in_err-fail c = rw (← c.read_amount.ensures.value, c.in_err-fail.was) c.from_residual.ensures

pub returns : goal.returns
unfolding fail_read
returns c =
    let told : AmountTold c.args.text.now c.in_ok-fail.fail c.in_ok-fail.k = amount_told c.read_amount.ensures.value c.in_ok-fail.was in
    rw told.read (c.read_account.ensures ∙ (λ i. account_read c.args.n (to_z-of_z c.ranges.ordinary i) (told.is i) (part c.in_ok-fail.k c.args.text.now i)))
