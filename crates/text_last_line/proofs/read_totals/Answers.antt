use Rattle.std.proofs.Common.{◌∙◌}
use Rattle.model.specs.TextReading.{fail_read, totals_read}
use Rattle.text_parts.specs.ReadingSteps.{amount_told, AmountTold, part}
use Rattle.text_last_line.proofs.read_totals.Goals as goal

pub returns-in_err-ordinary : goal.returns-in_err-ordinary
unfolding totals_read
returns-in_err-ordinary c = rw (← c.read_amount.ensures.value, c.in_err-ordinary.was) c.from_residual.ensures

pub returns : goal.returns
unfolding totals_read
returns c =
    let told : AmountTold c.args.text.now c.in_ok-ordinary.ordinary c.in_ok-ordinary.k = amount_told c.read_amount.ensures.value c.in_ok-ordinary.was in
    rw told.read (c.read_fail.ensures ∙ (λ i. fail_read c.args.n (told.is i) (part c.in_ok-ordinary.k c.args.text.now i)))
