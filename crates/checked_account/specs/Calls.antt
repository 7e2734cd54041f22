-- The answer once both files passed their own rows, and tables of the nets and DVPs in place of the batch's.
use Rattle.std.specs.Prelude.{◌≡◌, List, ℕ, ℤ, length, Ok, Err}
use Rattle.std.proofs.Math.Path.{refl}
use Rattle.std.proofs.Common.{ap, ◌∙◌}
use Rattle.numbers.specs.Table.{tabulate, length-tabulate}
use Rattle.model.specs.declared.Check.{Check}
use Rattle.model.specs.DayChecks.{day_check}
use Rattle.model.specs.BatchChecks.{batch_check}
use Rattle.model.specs.Netting.{net, dvp, netting_check, position_count}
use Rattle.model.specs.DepositChecks.{deposit_check}
use Rattle.model.specs.Steps.Cover.{covered}
use Rattle.model.specs.Report.{report_words, words_needed}
use Rattle.model.specs.Calls.{verdict, answer, answer_of, room_answer, needed, report}
use Rattle.model.proofs.Accepted.{DayRows, BatchRows}
use Rattle.model.proofs.Verdicts.{answer_failed, answer-passed, answer_last}
use Rattle.model.proofs.Records.{Budget, batch_budget, table_budget}
use Rattle.model.proofs.CoverLocal.{cover_agrees}
use Rattle.model.proofs.Nets.{few_series}
use Rattle.model.proofs.Whole.{AllAgree, table_agrees, report_same, needed_same, tabled}
use Rattle.classes.specs.Tables.{entry}

module _ (d b x : List ℕ) (room : ℕ) where
  pub answer-nets : (k : Check) → day_check d ≡ Ok tt → batch_check d b ≡ Ok tt → netting_check d b ≡ Err k → Err k ≡ answer d b x room
  unfolding answer verdict
  answer-nets k e q p = answer-passed _ _ _ _ _ refl e (answer-passed _ _ _ _ _ refl q (answer_failed _ _ _ k _ refl p))

  -- past row 30 the deposits' rows decide
  pub answer-deposits : day_check d ≡ Ok tt → batch_check d b ≡ Ok tt → netting_check d b ≡ Ok tt → answer_of (deposit_check d x) (room_answer (needed d b) room) ≡ answer d b x room
  unfolding answer verdict
  answer-deposits e q p = answer-passed _ _ _ _ _ refl e (answer-passed _ _ _ _ _ refl q (answer-passed _ _ _ _ _ refl p (answer_last (deposit_check d x) _)))

-- ---- the tables

module _ (d b x : List ℕ) (days : DayRows d) (nets dvps : List ℤ) (p : nets ≡ tabulate position_count (net b)) (q : dvps ≡ tabulate position_count (dvp b)) where
  pub tables_budget : BatchRows d b → Budget d (entry nets) (entry dvps)
  tables_budget r = rw (p, q) (table_budget d (net b) (dvp b) days (batch_budget d b days r))

  pub tables_report : report_words d (entry nets) (covered d x (entry nets)) (entry dvps) ≡ report d b x
  tables_report =
      (λ i. report_words d (entry (p i)) (covered d x (entry (p i))) (entry (q i)))
      ∙ report_same d (tabled (net b)) (covered d x (tabled (net b))) (tabled (dvp b)) (net b) (covered d x (net b)) (dvp b) agrees
      (cover_agrees d x (tabled (net b)) (tabled (dvp b)) (net b) (dvp b) (few_series d days) agrees)
    where
      agrees : AllAgree d (tabled (net b)) (tabled (dvp b)) (net b) (dvp b)
      agrees = table_agrees d (net b) (dvp b) days

  pub tables_needed : words_needed d (entry nets) (entry dvps) ≡ needed d b
  tables_needed =
      (λ i. words_needed d (entry (p i)) (entry (q i)))
      ∙ needed_same d (tabled (net b)) (tabled (dvp b)) (net b) (dvp b) (table_agrees d (net b) (dvp b) days)

  pub tables_length : length nets ≡ position_count
  tables_length = ap length p ∙ length-tabulate position_count (net b)
