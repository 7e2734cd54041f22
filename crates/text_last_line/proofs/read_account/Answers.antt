use Rattle.std.proofs.Common.{◌≡◌, ap, ◌∙◌, drop, to_z-of_z}
use Rattle.model.specs.TextReading.{ended, account_read}
use Rattle.std.specs.Prelude.{Some}
use Rattle.model.specs.declared.TextSays.TheVariants.{Report}
use Rattle.text_parts.specs.ReadingSteps.{amount_told, AmountTold, part}
use Rattle.text_last_line.proofs.read_account.Goals as goal

pub returns-in_err-account : goal.returns-in_err-account
unfolding account_read
returns-in_err-account c = rw (← c.read_amount.ensures.value, c.in_err-account.was) c.from_residual.ensures

pub returns-then-not-is_ended : goal.returns-then-not-is_ended
unfolding account_read
returns-then-not-is_ended c =
    let end : c.is_ended.result ≡ ended (drop c.in_ok-account.k c.args.text.now) = c.is_ended.ensures ∙ ap ended (part c.in_ok-account.k c.args.text.now) in
    rw (← c.read_amount.ensures.value, c.in_ok-account.was, ← end, c.if-not-is_ended.true)

pub returns : goal.returns
unfolding account_read
returns c =
    let told : AmountTold c.args.text.now c.in_ok-account.account c.in_ok-account.k = amount_told c.read_amount.ensures.value c.in_ok-account.was in
    let end : c.is_ended.result ≡ ended (drop c.in_ok-account.k c.args.text.now) = c.is_ended.ensures ∙ ap ended (part c.in_ok-account.k c.args.text.now) in
    rw (told.read, ← end, c.if-not-is_ended.false)
    (λ i. Some (Report (record { lines = c.args.n; ordinary = to_z-of_z c.ranges.ordinary i; fail = to_z-of_z c.ranges.fail i; account = told.is i })))
