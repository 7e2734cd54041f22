use Rattle.std.specs.Prelude.{Ok}
use Rattle.std.proofs.Common.{rules, ◌≡◌, List, ℕ, sym, ap, subst, ◌∙◌}
use Rattle.model.specs.BatchChecks.{batch_check}
use Rattle.model.specs.Netting.{net, dvp}
use Rattle.model.specs.Rewriting.{rewritten}
use Rattle.model.specs.RewritingChecks.{Rewritable}
use Rattle.model.specs.WorstMoment.{moment}
use Rattle.classes.specs.Checked.{checked_passed}
use Rattle.day_steps.specs.Kept.{opening_kept, kept_net_table, kept_dvp_table}
use Rattle.day_steps.specs.WorstMoments.{kept_moment}
use Rattle.kept_account.specs.Accounts.{nets_of, dvps_of, account_of, Whole, account_whole}
use Rattle.checked_nets.specs.Netted.{sums_check}
use Rattle.worst_moment.specs.Openings.{opened_ok, opened_err, sums_rewritable}
use Rattle.worst_moment.specs.Stages.{batch_refused, sums_refused, trades_refused, all_passed}
use Rattle.worst_moment.proofs.worst_of_day.Goals as goal
use Rattle.worst_moment.proofs.worst_of_day.Goals.{After-bad_trades}

pub returns-in_err-check_batch : goal.returns-in_err-check_batch
returns-in_err-check_batch c =
    let d = c.args.day.now.words.now in
    let b = c.args.batch.now in
    search rules ∙ sym (batch_refused d b c.args.trades.now (checked_passed d c.args.day.now.checked) c.in_err-check_batch.field-0.0 (sym c.check_batch.ensures ∙ c.in_err-check_batch.was))

pub returns-in_err-account : goal.returns-in_err-account
returns-in_err-account c =
    let d = c.args.day.now.words.now in
    let b = c.args.batch.now in
    let k = c.in_err-account.field-0.0 in
    search rules
    ∙ sym (sums_refused d b c.args.trades.now (checked_passed d c.args.day.now.checked) (sym c.check_batch.ensures ∙ c.in_ok-check_batch.was) k
    (opened_err (sums_check d b) (account_of d (net b) (dvp b)) k (sym c.opening.ensures ∙ c.in_err-account.was)))

-- the opening passed its rows, and is the account of its nets and DVPs
module _ (c : After-bad_trades) where
  abbrev d : List ℕ
  d = c.args.day.now.words.now

  abbrev b : List ℕ
  b = c.args.batch.now

  checked : batch_check d b ≡ Ok tt
  checked = sym c.check_batch.ensures ∙ c.in_ok-check_batch.was

  opened_is : (sums_check d b ≡ Ok tt) × (account_of d (net b) (dvp b) ≡ c.in_ok-account.account)
  opened_is = opened_ok (sums_check d b) (account_of d (net b) (dvp b)) c.in_ok-account.account (sym c.opening.ensures ∙ c.in_ok-account.was)

  rewritable : Rewritable d b
  rewritable = sums_rewritable d b (checked_passed d c.args.day.now.checked) checked opened_is.0

  nets_are : nets_of c.in_ok-account.account ≡ net b
  nets_are = ap nets_of (sym opened_is.1) ∙ kept_net_table d (net b) (dvp b) (opening_kept d b rewritable)

  dvps_are : dvps_of c.in_ok-account.account ≡ dvp b
  dvps_are = ap dvps_of (sym opened_is.1) ∙ kept_dvp_table d (net b) (dvp b) (opening_kept d b rewritable)

pub returns-then-bad_trades : goal.returns-then-bad_trades
returns-then-bad_trades c =
    let z = (goal.at.returns-then-bad_trades c).After-bad_trades in
    sym (trades_refused (d z) (b z) c.args.trades.now (checked_passed (d z) c.args.day.now.checked) (checked z) (opened_is z).0 (sym c.bad_trades.ensures ∙ c.if-bad_trades.true))

pub worst_from-requires-clause-whole : goal.worst_from-requires-clause-whole
worst_from-requires-clause-whole c =
    let z = (goal.at.worst_from-requires-clause-whole c).After-bad_trades in
    subst (Whole (d z)) (opened_is z).1 (account_whole (d z) (net (b z)) (dvp (b z)) (opening_kept (d z) (b z) (rewritable z)))

pub returns : goal.returns
returns c =
    let z = (goal.at.returns c).After-bad_trades in
    let t = c.args.trades.now in
    let is =
    c.worst_from.ensures
    ∙ (λ i. moment (d z) (rewritten (nets_are z i) (dvps_are z i)) t)
    ∙ kept_moment (d z) (b z) t (rewritable z)
    in
    ap Ok is ∙ sym (all_passed (d z) (b z) t (checked_passed (d z) c.args.day.now.checked) (checked z) (opened_is z).0 (sym c.bad_trades.ensures ∙ c.if-bad_trades.false))
