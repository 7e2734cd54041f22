use Rattle.std.proofs.Common.{◌∙◌, ap}
use Rattle.model.specs.TextReading.{count_read, report_read}
use Rattle.text_parts.specs.ReadingSteps.{part}
use Rattle.text_reading.proofs.read_report.Goals as goal

pub returns-in_err-n : goal.returns-in_err-n
unfolding report_read
returns-in_err-n c = rw (← c.read_field.ensures.value, c.in_err-n.was) c.from_residual.ensures

pub returns : goal.returns
unfolding report_read
returns c = rw (← c.read_field.ensures.value, c.in_ok-n.was) (c.read_count.ensures ∙ ap (count_read c.in_ok-n.n) (part c.in_ok-n.k c.args.text.now))
