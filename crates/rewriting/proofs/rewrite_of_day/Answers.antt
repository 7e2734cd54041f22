use Rattle.std.specs.Prelude.{Err}
use Rattle.std.proofs.Common.{rules, length, sym, ◌∙◌}
use Rattle.model.proofs.Accepted.{batch_checked}
use Rattle.classes.specs.Checked.{checked_passed}
use Rattle.netting.specs.Limits.{limited}
use Rattle.rewriting.specs.Stages.{rewrite_batch, rewrite_nets, rewrite_leaves}
use Rattle.rewriting.proofs.rewrite_of_day.Goals as goal

pub returns-in_err-check_batch : goal.returns-in_err-check_batch
returns-in_err-check_batch c =
    let d = c.args.day.now.words.now in
    let b = c.args.batch.now in
    let m = c.args.memory.now in
    let k = c.in_err-check_batch.field-0.0 in
    let e = rewrite_batch d b (length m) (checked_passed d c.args.day.now.checked) k (sym c.check_batch.ensures ∙ c.in_err-check_batch.was) in
    record { value = search rules ∙ e; memory_after = rewrite_leaves d b m (Err k) e }

pub invariant_of-rewrite_checked : goal.invariant_of-rewrite_checked
invariant_of-rewrite_checked c =
    let d = c.args.day.now.words.now in
    let b = c.args.batch.now in
    record { limited = limited d b (batch_checked d b (sym c.check_batch.ensures ∙ c.in_ok-check_batch.was)) }

pub rewrite_checked-requires : goal.rewrite_checked-requires
rewrite_checked-requires c = (batch_checked c.args.day.now.words.now c.args.batch.now (sym c.check_batch.ensures ∙ c.in_ok-check_batch.was)).records

pub returns : goal.returns
returns c =
    let d = c.args.day.now.words.now in
    let b = c.args.batch.now in
    let m = c.args.memory.now in
    let e = c.rewrite_checked.ensures.value ∙ rewrite_nets d b (length m) (checked_passed d c.args.day.now.checked) (sym c.check_batch.ensures ∙ c.in_ok-check_batch.was) in
    record { value = e; memory_after = c.rewrite_checked.ensures.memory_after ∙ rewrite_leaves d b m c.rewrite_checked.result e }
