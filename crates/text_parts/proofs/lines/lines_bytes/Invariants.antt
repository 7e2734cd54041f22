use Rattle.std.proofs.Common.{◌≡◌}
use Rattle.model.specs.TextReading.{lines_bytes}
use Rattle.text_parts.proofs.lines.lines_bytes.Given as goal

abbrev pub invariant-loop : goal.invariant-loop
invariant-loop l = l.at ≡ lines_bytes l.text l.counter
