use Rattle.std.proofs.Common.{◌≡◌, ◌∙◌, ap, drop, ℕ, false, ◌&&◌}
use Rattle.std.specs.Prelude.{None, ltb, ◌-◌, ◌^◌}
use Rattle.numbers.specs.Tests.{and_false}
use Rattle.model.specs.TextReading.{ended, refusal_of, place_read}
use Rattle.text_parts.specs.ReadingSteps.{part}
use Rattle.text_last_line.proofs.read_place.Goals as goal

-- no refusal where the text goes on
unended : (number place : ℕ) → None ≡ refusal_of number place false
unended number place = rw (and_false (ltb 0 number && ltb number (2 ^ 32 - 1) && ltb place (2 ^ 32)))

pub returns-in_err-place : goal.returns-in_err-place
unfolding place_read
returns-in_err-place c = rw (← c.read_field.ensures.value, c.in_err-place.was) c.from_residual.ensures

pub returns-then-not-is_ended : goal.returns-then-not-is_ended
unfolding place_read
returns-then-not-is_ended c =
    let end : c.is_ended.result ≡ ended (drop c.in_ok-place.k c.args.text.now) = c.is_ended.ensures ∙ ap ended (part c.in_ok-place.k c.args.text.now) in
    rw (← c.read_field.ensures.value, c.in_ok-place.was, ← end, c.if-not-is_ended.true) (unended c.args.number c.in_ok-place.place)

pub returns : goal.returns
unfolding place_read
returns c =
    let end : c.is_ended.result ≡ ended (drop c.in_ok-place.k c.args.text.now) = c.is_ended.ensures ∙ ap ended (part c.in_ok-place.k c.args.text.now) in
    rw (← c.read_field.ensures.value, c.in_ok-place.was, ← end, c.if-not-is_ended.false) c.refusal.ensures
