use Rattle.std.proofs.Common.{sym, ◌∙◌, arith}
use Rattle.text_parts.proofs.Starts.{line_found, line_whole}
use Rattle.text_parts.specs.ReadingSteps.{line_within}
use Rattle.text_parts.proofs.lines.line_bytes.Goals as goal

pub overflow_add-result : goal.overflow_add-result
overflow_add-result c =
    let t = c.args.text.now in
    omega (arith, line_found t c.in-Some.i (sym c.newline.ensures ∙ c.in-Some.is), line_within t)

pub returns-in-Some : goal.returns-in-Some
returns-in-Some c = sym (line_found c.args.text.now c.in-Some.i (sym c.newline.ensures ∙ c.in-Some.is))

pub returns-in-None : goal.returns-in-None
returns-in-None c = sym (line_whole c.args.text.now (sym c.newline.ensures ∙ c.in-None.is))
