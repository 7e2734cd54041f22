use Rattle.std.proofs.Common.{◌≡◌, ◌∙◌, ap}
use Rattle.model.specs.TextReading.{plus, minus, amount_read}
use Rattle.text_parts.specs.ReadingSteps.{amount_bound}
use Rattle.text_parts.proofs.fields.read_amount.Goals as goal

pub returns-then-has_head : goal.returns-then-has_head
unfolding amount_read
returns-then-has_head c =
    let t = c.args.text.now in
    let v : c.minus.result ≡ amount_read t = rw (← c.has_head.ensures, c.if-has_head.true) (c.minus.ensures ∙ ap minus c.read_behind.ensures) in
    record { value = v; within = amount_bound t _ v }

pub returns : goal.returns
unfolding amount_read
returns c =
    let t = c.args.text.now in
    let v : c.plus.result ≡ amount_read t = rw (← c.has_head.ensures, c.if-has_head.false) (c.plus.ensures ∙ ap plus c.read_field.ensures.value) in
    record { value = v; within = amount_bound t _ v }
