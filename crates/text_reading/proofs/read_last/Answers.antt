use Rattle.std.proofs.Common.{◌≡◌, ◌∙◌, ap, sym, true, false}
use Rattle.model.specs.Printed.{total_head}
use Rattle.model.specs.TextReading.{begins, totals_read, last_read}
use Rattle.text_parts.specs.Heads.{front_begins}
use Rattle.text_reading.proofs.read_last.Goals as goal

pub returns-in_err-strip_prefix : goal.returns-in_err-strip_prefix
unfolding last_read
returns-in_err-strip_prefix c =
    let head : begins total_head c.args.text.now ≡ false = sym (front_begins total_head c.args.text.now) ∙ c.in_err-strip_prefix.ensures.cases in
    rw head c.from_residual.ensures

pub returns : goal.returns
unfolding last_read
returns c =
    let head : begins total_head c.args.text.now ≡ true = sym (front_begins total_head c.args.text.now) ∙ c.in_ok-strip_prefix.ensures.cases.0 in
    rw head (c.read_totals.ensures ∙ ap (totals_read c.args.n) c.in_ok-strip_prefix.ensures.cases.1)
