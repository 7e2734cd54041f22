-- No deposits: their rows pass and no net changes. And a table of the nets after cover in their place.
use Rattle.std.specs.Prelude.{◌≡◌, refl, List, [], ◌∷◌, ℕ, ℤ, length}
use Rattle.std.proofs.Common.{sym, ap, ◌∙◌, arith}
use Rattle.numbers.specs.Table.{tabulate}
use Rattle.model.specs.Outcomes.{Answer}
use Rattle.model.specs.Outcomes.{Verdict}
use Rattle.model.specs.Calls.{answer_of}
use Rattle.model.specs.DepositChecks.{deposit_check}
use Rattle.model.specs.Netting.{position_count}
use Rattle.model.specs.Report.{report_words}
use Rattle.model.specs.Steps.Cover.{covered}
use Rattle.model.proofs.Accepted.{DayRows}
use Rattle.model.proofs.Cover.{cover_budget, covered_no_deposits, no_deposits_pass}
use Rattle.model.proofs.Records.{Budget, table_nets}
use Rattle.model.proofs.Whole.{table_after}
use Rattle.classes.specs.Tables.{entry}

empty : (x : List ℕ) → length x ≡ 0 → x ≡ []
empty [] e = refl
empty (w ∷ l) e = absurd (omega arith)

module _ (d x : List ℕ) (e : length x ≡ 0) where
  pub none_answered : (a : Answer) → a ≡ answer_of (deposit_check d x) a
  none_answered a = sym (ap (λ (v : Verdict). answer_of v a) (ap (deposit_check d) (empty x e) ∙ no_deposits_pass d))

  pub none_reported_lem : (n v : ℕ → ℤ) → report_words d n n v ≡ report_words d n (covered d x n) v
  none_reported_lem n v = ap (λ (u : ℕ → ℤ). report_words d n u v) (sym (ap (λ (y : List ℕ). covered d y n) (empty x e) ∙ covered_no_deposits d n))

module _ (d x : List ℕ) (nets dvps after : List ℤ) (days : DayRows d) (p : after ≡ tabulate position_count (covered d x (entry nets))) where
  pub after_budget : Budget d (entry nets) (entry dvps) → Budget d (entry after) (entry dvps)
  after_budget w = rw p (table_nets d (covered d x (entry nets)) (entry dvps) days (cover_budget d x (entry nets) (entry dvps) w))

  pub after_reported : report_words d (entry nets) (entry after) (entry dvps) ≡ report_words d (entry nets) (covered d x (entry nets)) (entry dvps)
  after_reported = ap (λ (l : List ℤ). report_words d (entry nets) (entry l) (entry dvps)) p ∙ table_after d (entry nets) (covered d x (entry nets)) (entry dvps) days
