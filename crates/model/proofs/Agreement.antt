-- The definitions against worked figures, in one place: M1 to M9, the accounts on which seen mistakes show, what none of these shows, a refusal of each row, the call for many accounts, the short option adjustment, deposits, offsets, projected prices out of order, expired futures, the worst moment of a day, and batches in cents.
use mathlib.Core.Path.{◌≡◌}
use Rattle.model.specs.Accounts.{all_computed, all_published}
use Rattle.model.specs.Figures.{figures, figures_agree}
use Rattle.model.specs.Mistakes.{mistakes, mistakes_agree}
use Rattle.model.specs.Cases.{cases, cases_agree}
use Rattle.model.specs.Refusals.{refusals, refusals_agree}
use Rattle.model.specs.ManyFigures.{brokers, brokers_agree}
use Rattle.model.specs.AdjustmentFigures.{adjustments, adjustments_agree}
use Rattle.model.specs.DepositFigures.{lodged, lodged_agree}
use Rattle.model.specs.OffsetFigures.{offset_figures, offset-figures_agree}
use Rattle.model.specs.ProjectedFigures.{projected_figures, projected-figures_agree}
use Rattle.model.specs.ExpiredFigures.{expired_rows, expired-rows_agree}
use Rattle.model.specs.WorstMomentFigures.{worst_moments, worst-moments_agree}
use Rattle.model.specs.CentsFigures.{cents_rows, cents-rows_agree}

pub record Agreement : Type 0 where
  pub scope : all_computed figures ≡ all_published figures
  pub mistaken : all_computed mistakes ≡ all_published mistakes
  pub further : all_computed cases ≡ all_published cases
  pub refused : all_computed refusals ≡ all_published refusals
  pub many : all_computed brokers ≡ all_published brokers
  pub adjusted : all_computed adjustments ≡ all_published adjustments
  pub deposited : all_computed lodged ≡ all_published lodged
  pub offset : all_computed offset_figures ≡ all_published offset_figures
  pub projected : all_computed projected_figures ≡ all_published projected_figures
  pub expired : all_computed expired_rows ≡ all_published expired_rows
  pub worst : all_computed worst_moments ≡ all_published worst_moments
  pub in_cents : all_computed cents_rows ≡ all_published cents_rows

pub agreement : Agreement
agreement =
    record {
      scope = figures_agree;
      mistaken = mistakes_agree;
      further = cases_agree;
      refused = refusals_agree;
      many = brokers_agree;
      adjusted = adjustments_agree;
      deposited = lodged_agree;
      offset = offset-figures_agree;
      projected = projected-figures_agree;
      expired = expired-rows_agree;
      worst = worst-moments_agree;
      in_cents = cents-rows_agree;
    }
