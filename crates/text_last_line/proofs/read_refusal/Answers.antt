use Rattle.std.proofs.Common.{ap, ◌∙◌}
use Rattle.model.specs.TextReading.{place_read, refusal_read}
use Rattle.text_parts.specs.ReadingSteps.{part}
use Rattle.text_last_line.proofs.read_refusal.Goals as goal

pub returns-in_err-number : goal.returns-in_err-number
unfolding refusal_read
returns-in_err-number c = rw (← c.read_field.ensures.value, c.in_err-number.was) c.from_residual.ensures

pub returns : goal.returns
unfolding refusal_read
returns c = rw (← c.read_field.ensures.value, c.in_ok-number.was) (c.read_place.ensures ∙ ap (place_read c.in_ok-number.number) (part c.in_ok-number.k c.args.text.now))
