use Rattle.std.proofs.Common.{rules}
use Rattle.model.specs.declared.Check.TheVariants.{Netting}
use Rattle.model.specs.declared.NettingFault.TheVariants.{BadDeposit, UnlikeMultipliers}
use Rattle.model.specs.Rows.{tried}
use Rattle.model.specs.DepositChecks.{row50, row51, deposit_check}
use Rattle.model.proofs.Verdicts.{verdicts}
use Rattle.deposit_check.proofs.check_deposits.Goals as goal

pub returns-in_err-check_records : goal.returns-in_err-check_records
unfolding deposit_check tried
returns-in_err-check_records c =
    let a = c.args in
    let e1 = rw c.deposit_count-count.ensures at c.check_records.ensures (Netting BadDeposit) (row50 a.day.now.words.now a.deposits.now) (λ i k p. search rules) (λ i v p. search rules) in
    search (verdicts, rules)

pub returns : goal.returns
unfolding deposit_check tried
returns c =
    let a = c.args in
    let e1 = rw c.deposit_count-count.ensures at c.check_records.ensures (Netting BadDeposit) (row50 a.day.now.words.now a.deposits.now) (λ i k p. search rules) (λ i v p. search rules) in
    let e2 = rw c.deposit_count-count.ensures at c.check_records-2.ensures (Netting UnlikeMultipliers) (row51 a.day.now.words.now a.deposits.now) (λ i k p. search rules) (λ i v p. search rules) in
    search (verdicts, rules)
