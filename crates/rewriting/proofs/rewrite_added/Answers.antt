use Rattle.std.proofs.Common.{rules, length, sym, ◌∙◌}
use Rattle.model.specs.Rewriting.{rewriting}
use Rattle.model.proofs.Accepted.{records_checked}
use Rattle.netting.specs.Limits.{limited_records}
use Rattle.rewriting.specs.Stages.{words_refused, positions_refused, positions_passed}
use Rattle.rewriting.proofs.rewrite_added.Goals as goal

pub returns-in_err-check_words-clause-value : goal.returns-in_err-check_words-clause-value
returns-in_err-check_words-clause-value c =
    let d = c.args.day.now.words.now in
    let b = c.args.batch.now.words.now in
    search rules ∙ words_refused d b (length (rewriting b)) (length c.args.memory.now) c.in_err-check_words.field-0.0 (sym c.check_words.ensures ∙ c.in_err-check_words.was)

pub returns-in_err-check_positions-clause-value : goal.returns-in_err-check_positions-clause-value
returns-in_err-check_positions-clause-value c =
    let d = c.args.day.now.words.now in
    let b = c.args.batch.now.words.now in
    search rules
    ∙ positions_refused d b (length (rewriting b)) (length c.args.memory.now) (sym c.check_words.ensures ∙ c.in_ok-check_words.was) c.in_err-check_positions.field-0.0
    (sym c.check_positions.ensures ∙ c.in_err-check_positions.was)

pub invariant_of-rewrite_checked : goal.invariant_of-rewrite_checked
invariant_of-rewrite_checked c =
    let d = c.args.day.now.words.now in
    let b = c.args.batch.now.words.now in
    record { limited = limited_records d b (records_checked d b (sym c.check_words.ensures ∙ c.in_ok-check_words.was) (sym c.check_positions.ensures ∙ c.in_ok-check_positions.was)) c.args.batch.now.whole c.requires }

pub rewrite_checked-requires : goal.rewrite_checked-requires
rewrite_checked-requires c =
    records_checked c.args.day.now.words.now c.args.batch.now.words.now (sym c.check_words.ensures ∙ c.in_ok-check_words.was) (sym c.check_positions.ensures ∙ c.in_ok-check_positions.was)

pub returns-clause-value : goal.returns-clause-value
returns-clause-value c =
    let d = c.args.day.now.words.now in
    let b = c.args.batch.now.words.now in
    c.rewrite_checked.ensures.value
    ∙ positions_passed d b (length (rewriting b)) (length c.args.memory.now) (sym c.check_words.ensures ∙ c.in_ok-check_words.was) (sym c.check_positions.ensures ∙ c.in_ok-check_positions.was)
