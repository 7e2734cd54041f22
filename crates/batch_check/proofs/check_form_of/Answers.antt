use Rattle.std.proofs.Common.{rules, ◌≡◌, false, sym, ap, ◌∙◌, arith}
use Rattle.model.specs.Batch.{headed}
use Rattle.model.specs.BatchChecks.{row21, words_check, batch_form}
use Rattle.model.proofs.Headed.{headed_whole, headed_words}
use Rattle.model.proofs.Verdicts.{verdicts}
use Rattle.batch_check.proofs.check_form_of.Goals as goal
use Rattle.batch_check.proofs.check_form_of.Goals.{After-payload}

-- the length is that of its records
whole : (c : After-payload) → row21 (headed c.args.header c.args.batch.now) ≡ false
whole c = sym c.bad_length_of.ensures ∙ c.if-bad_length_of.false

pub check_records-requires : goal.check_records-requires
check_records-requires c =
    let e = headed_whole c.args.header c.args.batch.now (whole c) in
    omega (arith, e, c.payload.ensures)

pub returns : goal.returns
unfolding batch_form
returns c =
    let b = c.args.batch.now in
    let e = c.check_records.ensures ∙ ap (words_check b) c.payload.ensures ∙ headed_words c.args.header b (whole (goal.at.returns c).After-payload) in
    search (verdicts, rules)
