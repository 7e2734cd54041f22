-- The sides of one series, if it is a future; and the spread margin by its parts.
use Rattle.std.specs.Prelude.{Bool, ◌&&◌, cond, List, ℕ, ℤ, pos, ◌+ℤ◌, ◌-ℤ◌, ◌*ℤ◌}
use Rattle.numbers.specs.Extremes.{min_z}
use Rattle.model.specs.DayFile.{series_type, is_future}
use Rattle.model.specs.Steps.Positions.{not_zero, open_net}
use Rattle.model.specs.Steps.Spread.{short_side, long_side, left_over}

abbrev pub future_short : List ℕ → (ℕ → ℤ) → ℕ → ℕ → ℤ
future_short d n k s = cond (is_future (series_type d s)) (short_side (open_net n k s)) (pos 0)

abbrev pub future_long : List ℕ → (ℕ → ℤ) → ℕ → ℕ → ℤ
future_long d n k s = cond (is_future (series_type d s)) (long_side (open_net n k s)) (pos 0)

-- spot and non-spot spread, each times its rate: e the size of the spot, q the spread quantity
abbrev pub spread_amount : ℤ → ℤ → ℕ → ℕ → ℤ
spread_amount e q r₁ r₂ = min_z e q *ℤ pos r₁ +ℤ (pos 2 *ℤ q -ℤ min_z e q) *ℤ pos r₂

-- a future with a non-zero net
abbrev pub held_here : List ℕ → (ℕ → ℤ) → ℕ → ℕ → Bool
held_here d n k s = is_future (series_type d s) && not_zero (open_net n k s)

-- what is left of both sides of a net: q the spread quantity, a and l what the earlier series have taken, short and long
abbrev pub non_spread_of : ℤ → ℤ → ℤ → ℤ → ℤ
non_spread_of q a l z = left_over q a (short_side z) -ℤ left_over q l (long_side z)
