use Rattle.std.proofs.Common.{◌≡◌, ◌∙◌, ap, sym, true, false}
use Rattle.model.specs.Printed.{refused_head, margin_head}
use Rattle.model.specs.TextReading.{begins, refusal_read, report_read, text_says}
use Rattle.text_parts.specs.Heads.{front_begins}
use Rattle.text_reading.proofs.read_text.Goals as goal

pub returns-in-Some : goal.returns-in-Some
unfolding text_says
returns-in-Some c =
    let head : begins refused_head c.args.text.now ≡ true = sym (front_begins refused_head c.args.text.now) ∙ c.in-Some.ensures.cases.0 in
    rw head (c.read_refusal.ensures ∙ ap refusal_read c.in-Some.ensures.cases.1)

pub returns-in_err-strip_prefix : goal.returns-in_err-strip_prefix
unfolding text_says
returns-in_err-strip_prefix c =
    let other : begins refused_head c.args.text.now ≡ false = sym (front_begins refused_head c.args.text.now) ∙ c.in_default.ensures.cases in
    let head : begins margin_head c.args.text.now ≡ false = sym (front_begins margin_head c.args.text.now) ∙ c.in_err-strip_prefix.ensures.cases in
    rw (other, head) c.from_residual.ensures

pub returns : goal.returns
unfolding text_says
returns c =
    let other : begins refused_head c.args.text.now ≡ false = sym (front_begins refused_head c.args.text.now) ∙ c.in_default.ensures.cases in
    let head : begins margin_head c.args.text.now ≡ true = sym (front_begins margin_head c.args.text.now) ∙ c.in_ok-strip_prefix.ensures.cases.0 in
    rw (other, head) (c.read_report.ensures ∙ ap report_read c.in_ok-strip_prefix.ensures.cases.1)
