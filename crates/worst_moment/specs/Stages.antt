-- The answer of the call, a stage of its rows at a time. d is the day file, b the opening batch, t the trades.
use Rattle.std.specs.Prelude.{◌≡◌, true, false, List, [], ◌∷◌, ℕ, Ok, Err}
use Rattle.std.proofs.Math.Path.{sym, ap}
use Rattle.std.proofs.Common.{◌∙◌}
use Rattle.model.specs.Outcomes.{Verdict}
use Rattle.model.specs.declared.Check.{Check}
use Rattle.model.specs.declared.Check.TheVariants.{Netting}
use Rattle.model.specs.declared.NettingFault.TheVariants.{BadTrades}
use Rattle.model.specs.Rows.{tried, plain_row}
use Rattle.model.specs.DayChecks.{day_check}
use Rattle.model.specs.BatchChecks.{batch_check}
use Rattle.model.specs.WorstMoment.{row62, worst_check, moment, moment_answer, worst_answer}
use Rattle.model.proofs.Verdicts.{tried_behind}
use Rattle.checked_nets.specs.Netted.{sums_check}
use Rattle.day_steps.specs.Openings.{opening_rows}

module _ (d b t : List ℕ) where
  staged : worst_answer d b t ≡ moment_answer (tried (day_check d ∷ batch_check d b ∷ sums_check d b ∷ plain_row (Netting BadTrades) (row62 t) ∷ [])) (moment d b t)
  unfolding worst_answer worst_check sums_check
  staged =
      ap (λ (v : Verdict). moment_answer v (moment d b t))
      (ap (λ (v : Verdict). tried (v ∷ plain_row (Netting BadTrades) (row62 t) ∷ [])) (opening_rows d b)
      ∙ sym (tried_behind (day_check d ∷ batch_check d b ∷ sums_check d b ∷ []) (plain_row (Netting BadTrades) (row62 t) ∷ [])))

  pub day_refused : (k : Check) → day_check d ≡ Err k → worst_answer d b t ≡ Err k
  unfolding tried
  day_refused k e = staged ∙ rw e

  module _ (p : day_check d ≡ Ok tt) where
    pub batch_refused : (k : Check) → batch_check d b ≡ Err k → worst_answer d b t ≡ Err k
    unfolding tried
    batch_refused k e = staged ∙ rw (p, e)

    module _ (q : batch_check d b ≡ Ok tt) where
      pub sums_refused : (k : Check) → sums_check d b ≡ Err k → worst_answer d b t ≡ Err k
      unfolding tried
      sums_refused k e = staged ∙ rw (p, q, e)

      module _ (s : sums_check d b ≡ Ok tt) where
        pub trades_refused : row62 t ≡ true → worst_answer d b t ≡ Err (Netting BadTrades 0)
        unfolding tried
        trades_refused e = staged ∙ rw (p, q, s, e)

        pub all_passed : row62 t ≡ false → worst_answer d b t ≡ Ok (moment d b t)
        unfolding tried
        all_passed e = staged ∙ rw (p, q, s, e)
