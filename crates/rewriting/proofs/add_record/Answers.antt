use Rattle.std.specs.Prelude.{Err}
use Rattle.std.proofs.Common.{rules, length, ◌∙◌}
use Rattle.rewriting.specs.Stages.{add_day, add_leaves}
use Rattle.rewriting.proofs.add_record.Goals as goal

pub returns-in_err-checked_day : goal.returns-in_err-checked_day
returns-in_err-checked_day c =
    let d = c.args.day.now in
    let b = c.args.batch.now in
    let w = c.args.record.now in
    let m = c.args.memory.now in
    let k = c.in_err-checked_day.field-0.0 in
    let e = add_day d b w (length m) k (c.checked_day.ensures.1 k c.in_err-checked_day.was) in
    record { result = search rules ∙ e; memory = add_leaves d b w m (Err k) e }
