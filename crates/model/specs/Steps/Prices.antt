-- Step 5: the price that an open position has at a point, with the short option adjustment (U3). An expired future has the underlying price (Points).
use Rattle.std.specs.Prelude.{Bool, ◌&&◌, cond, List, ℕ, max, eqb, ℤ, pos}
use Rattle.std.specs.Int.Signed.{lt_z}
use Rattle.model.specs.DayFile.{series_type, adjustment, theoretical, is_call, is_put}
use Rattle.model.specs.Limits.{downside5, upside5}

-- the point at which a net short of type t is adjusted: upside 5 for a call, downside 5 for a put
abbrev pub adjusted_at : ℕ → ℕ → Bool
adjusted_at t k = cond (is_call t) (eqb k upside5) (is_put t && eqb k downside5)

-- the price of a net short at point k: the larger of the theoretical price and the adjustment there, the theoretical price elsewhere
unfoldable pub short_price : List ℕ → ℕ → ℕ → ℕ
short_price d s k = cond (adjusted_at (series_type d s) k) (max (theoretical d s k) (adjustment d s)) (theoretical d s k)

-- the price of an open position of net z at point k: the theoretical price unless the net is short
unfoldable pub open_price : List ℕ → ℕ → ℤ → ℕ → ℕ
open_price d s z k = cond (lt_z (pos 0) z) (short_price d s k) (theoretical d s k)
