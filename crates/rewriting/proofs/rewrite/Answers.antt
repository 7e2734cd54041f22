use Rattle.std.specs.Prelude.{Err}
use Rattle.std.proofs.Common.{rules, length, ◌∙◌}
use Rattle.rewriting.specs.Stages.{rewrite_day, rewrite_leaves}
use Rattle.rewriting.proofs.rewrite.Goals as goal

pub returns-in_err-checked_day : goal.returns-in_err-checked_day
returns-in_err-checked_day c =
    let d = c.args.day.now in
    let b = c.args.batch.now in
    let m = c.args.memory.now in
    let k = c.in_err-checked_day.field-0.0 in
    let e = rewrite_day d b (length m) k (c.checked_day.ensures.1 k c.in_err-checked_day.was) in
    record { result = search rules ∙ e; memory = rewrite_leaves d b m (Err k) e }
