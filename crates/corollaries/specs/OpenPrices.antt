-- U3: the price of an open position is never below the theoretical one, and is that one unless the net is short, the point adjusted and the adjustment higher. Of an option the net is the open one.
use Rattle.std.specs.Prelude.{◌≡◌, refl, Bool, true, false, ◌||◌, List, ℕ, ◌≤◌, ℤ, pos}
use Rattle.std.proofs.Common.{◌∙◌, le_refl, arith, eqb-true}
use Rattle.std.specs.Int.Signed.{lt_z}
use Rattle.model.specs.DayFile.{series_type, adjustment, theoretical, is_future, is_call, is_put, is_option}
use Rattle.model.specs.Steps.Positions.{open_net}
use Rattle.model.specs.Steps.Prices.{adjusted_at, open_price}
use Rattle.model.specs.Steps.Points.{counted_net}
use Rattle.model.proofs.Prices.{short_elsewhere, open_short, open_not-short, open_price_by}

module _ (d : List ℕ) (s k : ℕ) (z : ℤ) where
  pub never_lower : theoretical d s k ≤ open_price d s z k
  never_lower = open_price_by d s k z (λ p. theoretical d s k ≤ p) (omega arith) (le_refl (theoretical d s k))

  -- so adjustments of 0 leave every price the theoretical one
  pub low_adjustment : adjustment d s ≤ theoretical d s k → open_price d s z k ≡ theoretical d s k
  low_adjustment h = open_price_by d s k z (λ p. p ≡ theoretical d s k) (omega arith) refl

  pub not_short : lt_z (pos 0) z ≡ false → open_price d s z k ≡ theoretical d s k
  not_short = open_not-short d s k z

  pub other_point : adjusted_at (series_type d s) k ≡ false → open_price d s z k ≡ theoretical d s k
  other_point h = by (lt_z (pos 0) z) refl
    where
      by : (b : Bool) → lt_z (pos 0) z ≡ b → open_price d s z k ≡ theoretical d s k
      by true e = open_short d s k z e ∙ short_elsewhere d s k h
      by false e = open_not-short d s k z e

-- no option is an open future
no_future : (t : ℕ) → is_option t ≡ true → is_future t ≡ false
no_future t h = by (is_call t) refl h
  where
    by : (b : Bool) → is_call t ≡ b → (b || is_put t) ≡ true → is_future t ≡ false
    by true e w = let q = eqb-true t _ e in rw q
    by false e w = let q = eqb-true t _ w in rw q

pub option-net : (d : List ℕ) (n : ℕ → ℤ) (book c s : ℕ) → is_option (series_type d s) ≡ true → counted_net d n book c s ≡ open_net n book s
unfolding counted_net
option-net d n book c s h = rw (no_future (series_type d s) h)
