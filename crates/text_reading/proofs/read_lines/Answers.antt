use Rattle.std.proofs.Common.{◌∙◌, ap}
use Rattle.model.specs.TextReading.{last_read, lines_read}
use Rattle.text_parts.specs.ReadingSteps.{part}
use Rattle.text_reading.proofs.read_lines.Goals as goal

pub returns : goal.returns
unfolding lines_read
returns c = rw (← c.lines_bytes-at.ensures.value) (c.read_last.ensures ∙ ap (last_read c.args.n) (part c.lines_bytes-at.result c.args.text.now))
