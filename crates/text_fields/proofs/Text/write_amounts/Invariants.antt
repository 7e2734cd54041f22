use Rattle.model.specs.Printed.{amount_fields}
use Rattle.text_fields.specs.Writing.{Wrote}
use Rattle.text_fields.proofs.Text.write_amounts.Given as goal

abbrev pub invariant-loop-k : goal.invariant-loop-k
invariant-loop-k l = Wrote (amount_fields l.report l.i l.k) l.initial.self l.self
