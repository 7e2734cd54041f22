use Rattle.std.proofs.Common.{rules}
use Rattle.model.specs.ManyAccounts.{accounts_check}
use Rattle.accounts_check.proofs.check_accounts.Goals as goal
use Rattle.model.proofs.Verdicts.{verdicts}

pub returns-then-bad_lengths : goal.returns-then-bad_lengths
unfolding accounts_check
returns-then-bad_lengths c = search (verdicts, rules)

pub returns-then-short_results : goal.returns-then-short_results
unfolding accounts_check
returns-then-short_results c = search (verdicts, rules)

pub returns : goal.returns
unfolding accounts_check
returns c = search (verdicts, rules)
