-- The rows of an opening: it has no more positions than records, so that row 32 is never met.
use Rattle.std.specs.Prelude.{◌≡◌, List, [], ◌∷◌, ℕ, Ok, Err}
use Rattle.std.proofs.Math.Path.{refl}
use Rattle.std.proofs.Common.{◌∙◌}
use Rattle.model.specs.Outcomes.{Verdict}
use Rattle.model.specs.Rows.{tried}
use Rattle.model.specs.DayChecks.{day_check}
use Rattle.model.specs.BatchChecks.{batch_check}
use Rattle.model.specs.Netting.{netting_check}
use Rattle.model.specs.DepositChecks.{deposit_check}
use Rattle.model.specs.Calls.{verdict}
use Rattle.model.specs.RewritingChecks.{dvp_check, rewrite_check}
use Rattle.model.proofs.Cover.{no_deposits_pass}
use Rattle.corollaries.specs.Rewritings.{rewritings}

-- the rows of a report without deposits, and 31
regroup : (D B N X S : Verdict) → X ≡ Ok tt → tried (tried (D ∷ B ∷ N ∷ X ∷ []) ∷ S ∷ []) ≡ tried (D ∷ B ∷ tried (N ∷ S ∷ []) ∷ [])
unfolding tried
regroup (Err k) B N X S x = refl
regroup (Ok _) (Err k) N X S x = refl
regroup (Ok _) (Ok _) (Err k) X S x = refl
regroup (Ok _) (Ok _) (Ok _) X (Err k) x = rw x
regroup (Ok _) (Ok _) (Ok _) X (Ok _) x = rw x

pub opening_rows : (d b : List ℕ) → rewrite_check d b ≡ tried (day_check d ∷ batch_check d b ∷ tried (netting_check d b ∷ dvp_check b ∷ []) ∷ [])
unfolding verdict
opening_rows d b = rewritings.refusals d b ∙ regroup (day_check d) (batch_check d b) (netting_check d b) (deposit_check d []) (dvp_check b) (no_deposits_pass d)
