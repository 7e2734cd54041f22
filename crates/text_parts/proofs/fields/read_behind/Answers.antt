use Rattle.std.proofs.Common.{◌≡◌, drop, ◌∙◌, ap, sym, arith, length-drop}
use Rattle.model.specs.TextReading.{decimal_read}
use Rattle.text_parts.proofs.fields.read_behind.Goals as goal
use Rattle.text_parts.specs.ReadingSteps.{number_within}
use Rattle.text_parts.specs.ReadingSteps.{part}

pub overflow_add-result : goal.overflow_add-result
overflow_add-result c =
    let is : c.read_decimal.result ≡ decimal_read (drop c.args.k c.args.text.now) = c.read_decimal.ensures ∙ ap decimal_read (part c.args.k c.args.text.now) in
    let t = c.args.text.now in
    let h = number_within (drop c.args.k t) c.in_ok-n.n c.in_ok-n.j (sym is ∙ c.in_ok-n.was) in
    omega (arith, h, length-drop c.args.k t)
