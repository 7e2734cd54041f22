-- The answer where the day file or the batch is refused.
use Rattle.std.specs.Prelude.{◌≡◌, List, ℕ, Ok, Err}
use Rattle.std.proofs.Math.Path.{refl}
use Rattle.model.specs.declared.Check.{Check}
use Rattle.model.specs.DayChecks.{day_check}
use Rattle.model.specs.BatchChecks.{batch_check}
use Rattle.model.specs.Calls.{verdict, answer}
use Rattle.model.proofs.Verdicts.{answer_failed, answer-passed}

module _ (d b x : List ℕ) (room : ℕ) where
  pub answer-day : (k : Check) → day_check d ≡ Err k → Err k ≡ answer d b x room
  unfolding answer verdict
  answer-day k e = answer_failed _ _ _ k _ refl e

  pub answer_batch : (k : Check) → day_check d ≡ Ok tt → batch_check d b ≡ Err k → Err k ≡ answer d b x room
  unfolding answer verdict
  answer_batch k e q = answer-passed _ _ _ _ _ refl e (answer_failed _ _ _ k _ refl q)
