-- Every margin and total of a report has fewer than 63 bits. n are the nets by which a group has a line, u those of its amounts, v the DVPs.
use mathlib.Core.List.{List}
use Prim.Native.Nat.{ℕ, zero, suc, ◌^◌, ◌<◌}
use native.Mathlib.Omega.{arith}
use lib.IntN.{ℤ, nat_abs}
use Rattle.model.specs.Limits.{group_count}
use Rattle.model.specs.Netting.{net, dvp}
use Rattle.model.specs.Steps.{margin}
use Rattle.model.specs.Calls.{Accepted, net_after}
use Rattle.model.proofs.Accepted.{DayRows, day_rows, batch_rows}
use Rattle.model.proofs.Read.{total_of}
use Rattle.model.proofs.Records.{Budget, batch_budget}
use Rattle.model.proofs.Cover.{cover_budget}
use Rattle.model.proofs.Bounds.{margin_small, total_small, account_small}

pub record SmallReport (d : List ℕ) (n u v : ℕ → ℤ) : Type 0 where
  pub margins : (k g : ℕ) → k < 2 → g < group_count → nat_abs (margin d u v k g) < 2 ^ 63
  pub totals : (i : ℕ) → i < 3 → nat_abs (total_of d n u v i) < 2 ^ 63

module _ (d : List ℕ) (n u v : ℕ → ℤ) (p : DayRows d) (q : Budget d u v) where
  totals_small : (i : ℕ) → i < 3 → nat_abs (total_of d n u v i) < 2 ^ 63
  totals_small zero h = total_small d u v p q n 0 (omega arith)
  totals_small (suc zero) h = total_small d u v p q n 1 (omega arith)
  totals_small (suc (suc i)) h = account_small d u v p q n

  pub small_report : SmallReport d n u v
  small_report = record { margins = margin_small d u v p q; totals = totals_small }

module _ (d b x : List ℕ) (a : Accepted d b x) where
  pub accepted_budget : Budget d (net_after d b x) (dvp b)
  accepted_budget = cover_budget d x (net b) (dvp b) (batch_budget d b (day_rows d b x a) (batch_rows d b x a))

  pub accepted_small : SmallReport d (net b) (net_after d b x) (dvp b)
  accepted_small = small_report d (net b) (net_after d b x) (dvp b) (day_rows d b x a) accepted_budget
