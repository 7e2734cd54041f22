-- The price of an open position at a point: by the point and by the net; and as one of two prices, so that what holds of both holds of it.
use mathlib.Core.Path.{◌≡◌}
use mathlib.Core.Bool.{true, false}
use mathlib.Core.List.{List}
use Prim.Native.Nat.{ℕ, max, ◌≤◌, ◌<◌}
use native.Mathlib.Omega.{arith}
use lib.IntN.{ℤ, pos}
use lib.Signed.{lt_z}
use Rattle.numbers.specs.Abs.{cond_ind}
use Rattle.model.specs.Limits.{price_limit, point_count}
use Rattle.model.specs.DayFile.{series_count, series_type, adjustment, theoretical}
use Rattle.model.specs.Steps.{adjusted_at, short_price, open_price}
use Rattle.model.proofs.Accepted.{DayRows}
use Rattle.model.proofs.Limits.{adjustment_limit, theoretical_limit}

module _ (d : List ℕ) (s k : ℕ) where
  -- a net short, where it is adjusted and elsewhere
  pub short-adjusted : adjusted_at (series_type d s) k ≡ true → short_price d s k ≡ max (theoretical d s k) (adjustment d s)
  unfolding short_price
  short-adjusted h = rw h

  pub short_elsewhere : adjusted_at (series_type d s) k ≡ false → short_price d s k ≡ theoretical d s k
  unfolding short_price
  short_elsewhere h = rw h

  -- an open position, short and not
  pub open_short : (z : ℤ) → lt_z (pos 0) z ≡ true → open_price d s z k ≡ short_price d s k
  unfolding open_price
  open_short z h = rw h

  pub open_not-short : (z : ℤ) → lt_z (pos 0) z ≡ false → open_price d s z k ≡ theoretical d s k
  unfolding open_price
  open_not-short z h = rw h

  pub open_price_by : (z : ℤ) (P : ℕ → Type 0) → P (max (theoretical d s k) (adjustment d s)) → P (theoretical d s k) → P (open_price d s z k)
  unfolding open_price short_price
  open_price_by z P h p =
      cond_ind (lt_z (pos 0) z) (short_price d s k) (theoretical d s k) P
      (λ t. cond_ind (adjusted_at (series_type d s) k) (max (theoretical d s k) (adjustment d s)) (theoretical d s k) P (λ e. h) (λ e. p)) (λ t. p)

  pub open_price_limit : DayRows d → s < series_count d → k < point_count → (z : ℤ) → open_price d s z k ≤ price_limit
  open_price_limit r h l z =
      let p = theoretical_limit d r s h k l in
      let q = adjustment_limit d r s h in
      open_price_by z (λ x. x ≤ price_limit) (omega arith) p
