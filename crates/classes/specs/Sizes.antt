-- The sizes of the amounts of one position.
use Rattle.std.specs.Prelude.{List, ℕ, ◌*◌, ◌≤◌, ◌<◌, ℤ, nat_abs}
use Rattle.std.proofs.Common.{mul-le-mul, le_refl, arith}
use Rattle.numbers.specs.Budget.{sum_n_at}
use Rattle.model.specs.Limits.{contracts_limit}
use Rattle.model.specs.DayFile.{series_count, multiplier}
use Rattle.model.specs.Netting.{position, position_count}
use Rattle.model.proofs.Limits.{multiplier_least}
use Rattle.classes.specs.Tables.{entry, Given}

module _ (d : List ℕ) (nets : List ℤ) (w : Given d nets) (k x s : ℕ) (hk : k < 2) (hx : x < 2) (hs : s < series_count d) where
  -- net × multiplier
  pub contracts_size : nat_abs (entry nets (position k x s)) * multiplier d s ≤ contracts_limit
  contracts_size =
      omega (
        arith,
        w.budget.net_limit k x s hs hx hk,
        sum_n_at position_count w.budget.records (position k x s) (omega (arith, w.day.series)),
        w.budget.few,
      )

  pub net-size : nat_abs (entry nets (position k x s)) ≤ contracts_limit
  net-size =
      omega (arith, contracts_size, mul-le-mul (le_refl (nat_abs (entry nets (position k x s)))) (multiplier_least d w.day.rows s hs))
