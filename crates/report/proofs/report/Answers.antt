use Rattle.std.specs.Prelude.{Err}
use Rattle.std.proofs.Common.{rules, ◌≡◌, length, ◌∙◌}
use Rattle.model.proofs.Outcome.{memory_of}
use Rattle.model.specs.DayChecks.{day_check}
use Rattle.report.proofs.report.Goals as goal
use Rattle.report.specs.Calls.{answer-day}

pub returns-in_err-checked_day : goal.returns-in_err-checked_day
returns-in_err-checked_day c =
    let d = c.args.day.now in
    let k = c.in_err-checked_day.field-0.0 in
    let refused : day_check d ≡ Err k = c.checked_day.ensures.1 k c.in_err-checked_day.was in
    let e = answer-day d c.args.batch.now c.args.deposits.now (length c.args.memory.now) k refused in
    record { result = search rules ∙ e; memory = memory_of d c.args.batch.now c.args.deposits.now c.args.memory.now (Err k) e }
