use Rattle.std.specs.Prelude.{Err}
use Rattle.std.proofs.Common.{rules, length, sym, ◌∙◌}
use Rattle.classes.specs.Checked.{checked_passed}
use Rattle.report.proofs.report_of_day.Goals as goal
use Rattle.model.proofs.Outcome.{memory_of}
use Rattle.report.specs.Calls.{answer_batch}

pub returns-in_err-check_batch : goal.returns-in_err-check_batch
returns-in_err-check_batch c =
    let d = c.args.day.now.words.now in
    let k = c.in_err-check_batch.field-0.0 in
    let e =
    answer_batch d c.args.batch.now c.args.deposits.now (length c.args.memory.now) k (checked_passed d c.args.day.now.checked) (sym c.check_batch.ensures ∙ c.in_err-check_batch.was) in
    record { value = search rules ∙ e; memory_after = memory_of d c.args.batch.now c.args.deposits.now c.args.memory.now (Err k) e }
