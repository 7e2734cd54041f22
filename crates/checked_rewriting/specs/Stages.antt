-- The outcome of rows 30 to 32 and 40: the sums first, then the space. d is the day file, b the batch.
use Rattle.std.specs.Prelude.{◌≡◌, Bool, true, false, List, [], ◌∷◌, ℕ, length, Ok, Err}
use Rattle.std.proofs.Math.Path.{refl}
use Rattle.std.proofs.Common.{sym, ap, ◌∙◌}
use Rattle.model.specs.Outcomes.{Verdict, Answer}
use Rattle.model.specs.declared.Check.{Check}
use Rattle.model.specs.declared.Check.TheVariants.{Netting}
use Rattle.model.specs.declared.NettingFault.TheVariants.{NoSpace}
use Rattle.model.specs.Rows.{tried, plain_row}
use Rattle.model.specs.Netting.{netting_check}
use Rattle.model.specs.Calls.{outcome, room_answer}
use Rattle.model.specs.Rewriting.{rewriting}
use Rattle.model.specs.RewritingChecks.{row32, dvp_check, space_check, rewriting_check}
use Rattle.model.proofs.Verdicts.{answer_failed, answer-passed, answer_last, tried_behind}
use Rattle.checked_nets.specs.Netted.{sums_check}

module _ (d b : List ℕ) (room : ℕ) where
  abbrev pub outcome_of : Answer
  outcome_of = outcome (rewriting_check d b) (length (rewriting b)) room

  -- rows 30 and 31 are one stage before row 32
  staged : rewriting_check d b ≡ tried (sums_check d b ∷ space_check b ∷ [])
  unfolding rewriting_check sums_check
  staged = tried_behind (netting_check d b ∷ dvp_check b ∷ []) (space_check b ∷ [])

  by_stages : outcome (tried (sums_check d b ∷ space_check b ∷ [])) (length (rewriting b)) room ≡ outcome_of
  by_stages = ap (λ (v : Verdict). outcome v (length (rewriting b)) room) (sym staged)

  pub sums_refused : (k : Check) → sums_check d b ≡ Err k → Err k ≡ outcome_of
  sums_refused k e = answer_failed _ _ _ k _ refl e ∙ by_stages

  module _ (sums : sums_check d b ≡ Ok tt) where
    pub space_refused : row32 b ≡ true → Err (Netting NoSpace 0) ≡ outcome_of
    unfolding space_check
    space_refused e =
        answer-passed _ _ _ _ _ refl sums (answer_failed _ _ _ (Netting NoSpace 0) _ refl (ap (plain_row (Netting NoSpace)) e)) ∙ by_stages

    pub all_passed : row32 b ≡ false → room_answer (length (rewriting b)) room ≡ outcome_of
    unfolding space_check
    all_passed e =
        answer-passed _ _ _ _ _ refl sums
        (sym (ap (λ (t : Bool). outcome (plain_row (Netting NoSpace) t) (length (rewriting b)) room) e) ∙ answer_last (plain_row (Netting NoSpace) (row32 b)) (room_answer (length (rewriting b)) room))
        ∙ by_stages
