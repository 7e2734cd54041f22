use Rattle.model.specs.Printed.{lines_text}
use Rattle.text_fields.specs.Writing.{Wrote}
use Rattle.text_lines.proofs.write_lines.Given as goal

abbrev pub invariant-loop-k : goal.invariant-loop-k
invariant-loop-k l = Wrote (lines_text l.report l.k) l.initial.text l.text
