-- The order of cover as one number a series: its net short, its expiry, whether it is open and its place, each in digits of its own, the larger first.
use Rattle.std.specs.Prelude.{◌≡◌, cond, List, ℕ, ◌+◌, ◌-◌, ◌*◌, ◌/◌, ◌^◌, ◌≤◌, ◌<◌, ltb, ℤ, length, get_or}
use Rattle.std.proofs.Common.{◌∙◌, arith, lt-ltb}
use Rattle.numbers.specs.Table.{length-tabulate, get_or-tabulate}
use Rattle.numbers.specs.Filling.{filled}
use Rattle.model.specs.Limits.{most_series}
use Rattle.model.specs.DayFile.{series_count, series_type, expiry}
use Rattle.model.specs.Steps.Cover.{is_coverable, open_rank, short_of}

-- what an open future counts for, behind the places; an expiry, behind that; a net short, behind the expiries, of twelve bits
abbrev pub open_unit : ℕ
open_unit = most_series

abbrev pub expiry_unit : ℕ
expiry_unit = 2 * open_unit

abbrev pub short_unit : ℕ
short_unit = 2 ^ 12 * expiry_unit

-- of a net short a, an expiry e, an open rank o and a place t; the lower place is the larger number
abbrev pub key_of : ℕ → ℕ → ℕ → ℕ → ℕ
key_of a e o t = short_unit * a + expiry_unit * e + open_unit * o + (most_series - 1 - t)

-- of series s, 0 if deposits do not cover it
abbrev pub order_key : List ℕ → (ℕ → ℤ) → ℕ → ℕ
order_key d n s = cond (is_coverable (series_type d s)) (key_of (short_of d n s) (expiry d s) (open_rank d s) s) 0

-- what the key k of a series adds to what is covered before the series with key o
abbrev pub key_adds : ℕ → ℕ → ℕ
key_adds o k = cond (ltb o k) (k / short_unit) 0

-- ---- the table of the keys, 0 behind the last series

abbrev pub key_table : List ℕ → (ℕ → ℤ) → List ℕ
key_table d n = filled most_series (order_key d n) (λ i. 0) (series_count d)

module _ (d : List ℕ) (n : ℕ → ℤ) where
  pub keys_length : length (key_table d n) ≡ most_series
  keys_length = length-tabulate most_series (λ i. _)

  pub key_at : (s : ℕ) → s < series_count d → series_count d ≤ most_series → get_or (key_table d n) s 0 ≡ order_key d n s
  key_at s h few = get_or-tabulate most_series (λ i. cond (ltb i (series_count d)) (order_key d n i) 0) s 0 (omega arith) ∙ rw (lt-ltb s (series_count d) h)
