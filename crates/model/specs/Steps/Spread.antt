-- Step 2: the spread of a class's open futures, and the contracts that remain non-spread.
use Rattle.std.specs.Prelude.{Bool, ◌&&◌, List, ℕ, ℤ, pos, neg_ℤ, ◌+ℤ◌, ◌-ℤ◌, ◌*ℤ◌, Option, Some, None}
use Rattle.numbers.specs.Scan.{first_where}
use Rattle.numbers.specs.Sums.{sum_where}
use Rattle.numbers.specs.Extremes.{min_z, max_z, abs_z}
use Rattle.model.specs.DayFile.{series_count, spot_rate, non_spot_rate}
use Rattle.model.specs.Steps.Positions.{not_zero, open_net}
use Rattle.model.specs.Steps.Classes.{future_of}

-- the short side of a net (net = short − long), and its long side, each at least 0
abbrev pub short_side : ℤ → ℤ
short_side z = max_z z (pos 0)

abbrev pub long_side : ℤ → ℤ
long_side z = max_z (neg_ℤ z) (pos 0)

-- house rule: what is left of one side of a series, of the given size, where of the spread quantity q the earlier series have taken `before`
unfoldable pub left_over : ℤ → ℤ → ℤ → ℤ
left_over q before size = size -ℤ min_z size (max_z (q -ℤ before) (pos 0))

module _ (d : List ℕ) (net : ℕ → ℤ) (book : ℕ) where
  -- total net short of the class's open futures
  unfoldable pub total_short : ℕ → ℤ
  total_short c = sum_where (series_count d) (future_of d c) (λ s. short_side (open_net net book s))

  -- total net long
  unfoldable pub total_long : ℕ → ℤ
  total_long c = sum_where (series_count d) (future_of d c) (λ s. long_side (open_net net book s))

  -- the spread quantity: the smaller of the two
  abbrev pub spread_quantity : ℕ → ℤ
  spread_quantity c = min_z (total_long c) (total_short c)

  -- an open future of the class with a non-zero net; the day file has a class's open futures by expiry (row 16), so the first is the earliest (proofs/Expiry)
  unfoldable pub held_future : ℕ → ℕ → Bool
  held_future c s = future_of d c s && not_zero (open_net net book s)

  -- the absolute net of a future found, 0 with none
  abbrev pub size_at : Option ℕ → ℤ
  size_at (Some s) = abs_z (open_net net book s)
  size_at None = pos 0

  -- spot is the earliest expiry with a non-zero net: its absolute net
  unfoldable pub spot_size : ℕ → ℤ
  spot_size c = size_at (first_where (held_future c) (series_count d))

  -- spot spread: the smaller of the absolute spot net and the spread quantity
  unfoldable pub spot_spread : ℕ → ℤ
  spot_spread c = min_z (spot_size c) (spread_quantity c)

  -- non-spot spread: twice the spread quantity − spot spread
  unfoldable pub non_spot_spread : ℕ → ℤ
  non_spot_spread c = pos 2 *ℤ spread_quantity c -ℤ spot_spread c

  -- spread margin: each times its rate
  unfoldable pub spread : ℕ → ℤ
  spread c = spot_spread c *ℤ pos (spot_rate d c) +ℤ non_spot_spread c *ℤ pos (non_spot_rate d c)

  -- house rule: on each side, spread contracts are taken from the earliest expiry on; the sizes before series s, short and long
  unfoldable pub short_before : ℕ → ℕ → ℤ
  short_before c s = sum_where s (future_of d c) (λ t. short_side (open_net net book t))

  unfoldable pub long_before : ℕ → ℕ → ℤ
  long_before c s = sum_where s (future_of d c) (λ t. long_side (open_net net book t))

  -- the rest is non-spread: what is left of a future's short side − what is left of its long side
  unfoldable pub non_spread : ℕ → ℕ → ℤ
  non_spread c s =
      left_over (spread_quantity c) (short_before c s) (short_side (open_net net book s))
      -ℤ left_over (spread_quantity c) (long_before c s) (long_side (open_net net book s))
