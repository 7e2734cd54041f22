-- What an opening gives.
use Rattle.std.specs.Prelude.{◌≡◌, List, ℕ, Result, Ok, Err}
use Rattle.std.proofs.Common.{refl, ◌∙◌}
use Rattle.model.specs.declared.Check.{Check}
use Rattle.model.specs.Outcomes.{Verdict}
use Rattle.model.specs.DayChecks.{day_check}
use Rattle.model.specs.BatchChecks.{batch_check}
use Rattle.model.specs.RewritingChecks.{Rewritable}
use Rattle.model.proofs.Verdicts.{◌then◌, tried_pass}
use Rattle.checked_nets.specs.Netted.{sums_check}
use Rattle.day_steps.specs.Openings.{opening_rows}
use Rattle.kept_account.specs.declared.account.Account.{Account}

-- the account where its rows pass
abbrev pub opened : Verdict → Account → Result Account Check
opened (Ok _) a = Ok a
opened (Err k) a = Err k

pub opened_ok : (u : Verdict) (a r : Account) → opened u a ≡ Ok r → (u ≡ Ok tt) × (a ≡ r)
opened_ok (Ok _) a r e = (refl, cc)
opened_ok (Err k) a r e = cc

pub opened_err : (u : Verdict) (a : Account) (k : Check) → opened u a ≡ Err k → u ≡ Err k
opened_err (Ok _) a k e = cc
opened_err (Err j) a k e = cc

-- it can be rewritten then
pub sums_rewritable : (d b : List ℕ) → day_check d ≡ Ok tt → batch_check d b ≡ Ok tt → sums_check d b ≡ Ok tt → Rewritable d b
unfolding sums_check
sums_rewritable d b p q e = opening_rows d b ∙ tried_pass _ (p then q then e then tt)
