-- Sums and scans of step 2 as a loop over a class's range has them.
use Rattle.std.specs.Prelude.{◌≡◌, Bool, true, false, List, ℕ, ◌*◌, ◌+◌, ◌≤◌, ◌<◌, ◌^◌, ℤ, pos, ◌+ℤ◌, ◌-ℤ◌, ◌*ℤ◌, Option, Some, None}
use Rattle.std.proofs.Math.Path.{refl, sym, ap}
use Rattle.std.proofs.Common.{◌∙◌, le_refl}
use native.Mathlib.Omega.{arith}
use Rattle.std.proofs.Math.IntN.{nat_abs}
use Rattle.numbers.specs.Abs.{nat_abs-+, nat_abs--, nat_abs-*_le}
use Rattle.numbers.specs.Extremes.{min_z, max_z, abs_z, max-zero_abs, min_abs}
use Rattle.numbers.specs.Scan.{first_bad, first_more, first-hit, first_at}
use Rattle.model.specs.Limits.{worth_limit, contracts_limit, price_limit}
use Rattle.model.specs.DayFile.{series_count, class_count, series_type, is_future, spot_rate, non_spot_rate}
use Rattle.model.specs.Steps.Positions.{open_net}
use Rattle.model.specs.Steps.Classes.{of_class}
use Rattle.model.specs.Steps.Spread.{short_side, long_side, left_over, short_before, long_before, total_short, total_long, held_future, size_at, spot_size, spot_spread, non_spot_spread, spread_quantity, spread}
use Rattle.model.proofs.Bounds.{short_so_far, long_so_far}
use Rattle.classes.specs.Tables.{entry, Given}
use Rattle.classes.specs.Range.{Range, start, turn, finish, at, scan_start, scan_end}
use Rattle.classes.specs.Sizes.{net-size}
use Rattle.spread.specs.Sides.{future_short, future_long, held_here, spread_amount}

module _ (d : List ℕ) (n : ℕ → ℤ) (k c a b : ℕ) (r : Range d c a b) where
  pub short_start : pos 0 ≡ short_before d n k c a
  unfolding short_before
  short_start = start d c a b r (λ s. is_future (series_type d s)) (λ s. short_side (open_net n k s))

  pub long_start : pos 0 ≡ long_before d n k c a
  unfolding long_before
  long_start = start d c a b r (λ s. is_future (series_type d s)) (λ s. long_side (open_net n k s))

  pub short_turn : (s : ℕ) → a ≤ s → s < b → short_before d n k c s +ℤ future_short d n k s ≡ short_before d n k c (s + 1)
  unfolding short_before
  short_turn s p q = sym (turn d c a b r (λ s. is_future (series_type d s)) (λ s. short_side (open_net n k s)) s p q)

  pub long_turn : (s : ℕ) → a ≤ s → s < b → long_before d n k c s +ℤ future_long d n k s ≡ long_before d n k c (s + 1)
  unfolding long_before
  long_turn s p q = sym (turn d c a b r (λ s. is_future (series_type d s)) (λ s. long_side (open_net n k s)) s p q)

  pub short_end : (s : ℕ) → s ≡ b → short_before d n k c s ≡ total_short d n k c
  unfolding short_before total_short
  short_end s e = ap (short_before d n k c) e ∙ finish d c a b r (λ s. is_future (series_type d s)) (λ s. short_side (open_net n k s))

  pub long_end : (s : ℕ) → s ≡ b → long_before d n k c s ≡ total_long d n k c
  unfolding long_before total_long
  long_end s e = ap (long_before d n k c) e ∙ finish d c a b r (λ s. is_future (series_type d s)) (λ s. long_side (open_net n k s))

  -- ---- the spot

  held_out : (s : ℕ) → of_class d c s ≡ false → held_future d n k c s ≡ false
  unfolding held_future
  held_out s e = rw e

  held_in_lem : (s : ℕ) → of_class d c s ≡ true → held_future d n k c s ≡ held_here d n k s
  unfolding held_future
  held_in_lem s e = rw e

  pub spot_start : first_bad (held_future d n k c) a ≡ None
  spot_start = scan_start d c a b r (held_future d n k c) (held_here d n k) held_out held_in_lem

  pub spot_more : (s : ℕ) (t : Bool) → a ≤ s → s < b → first_bad (held_future d n k c) s ≡ None → t ≡ held_here d n k s → t ≡ false
      → first_bad (held_future d n k c) (s + 1) ≡ None
  spot_more s t p q h e f = first_more (held_future d n k c) s h (at d c a b r (held_future d n k c) (held_here d n k) held_out held_in_lem s p q ∙ sym e ∙ f)

  pub spot_hit : (s : ℕ) (t : Bool) → a ≤ s → s < b → first_bad (held_future d n k c) s ≡ None → t ≡ held_here d n k s → t ≡ true
      → abs_z (open_net n k s) ≡ spot_size d n k c
  unfolding spot_size
  spot_hit s t p q h e f =
      sym (ap (size_at d n k)
      (first-hit (held_future d n k c) s (series_count d) h (at d c a b r (held_future d n k c) (held_here d n k) held_out held_in_lem s p q ∙ sym e ∙ f) (omega (arith, r.end))))

  pub spot_none : (s : ℕ) → s ≡ b → first_bad (held_future d n k c) s ≡ None → pos 0 ≡ spot_size d n k c
  unfolding spot_size
  spot_none s e h =
      sym (ap (size_at d n k) (scan_end d c a b r (held_future d n k c) (held_here d n k) held_out held_in_lem (ap (first_bad (held_future d n k c)) (sym e) ∙ h)))

-- ---- sizes

module _ (d : List ℕ) (nets : List ℤ) (w : Given d nets) (k c : ℕ) (hk : k < 2) (hc : c < class_count d) where
  pub short-size : (m : ℕ) → m ≤ series_count d → nat_abs (short_before d (entry nets) k c m) ≤ contracts_limit
  short-size m h = short_so_far d (entry nets) w.dvp w.day.rows w.budget k c m hk hc h

  pub long-size : (m : ℕ) → m ≤ series_count d → nat_abs (long_before d (entry nets) k c m) ≤ contracts_limit
  long-size m h = long_so_far d (entry nets) w.dvp w.day.rows w.budget k c m hk hc h

  pub total-short-size : nat_abs (total_short d (entry nets) k c) ≤ contracts_limit
  unfolding total_short short_before
  total-short-size = short-size (series_count d) (le_refl (series_count d))

  pub total-long-size : nat_abs (total_long d (entry nets) k c) ≤ contracts_limit
  unfolding total_long long_before
  total-long-size = long-size (series_count d) (le_refl (series_count d))

  pub quantity_size : nat_abs (spread_quantity d (entry nets) k c) ≤ contracts_limit
  quantity_size = min_abs (total_long d (entry nets) k c) (total_short d (entry nets) k c) contracts_limit total-long-size total-short-size

  pub spot_size_lem : nat_abs (spot_size d (entry nets) k c) ≤ contracts_limit
  unfolding spot_size
  spot_size_lem = by (first_bad (held_future d (entry nets) k c) (series_count d)) refl
    where
      by : (f : Option ℕ) → first_bad (held_future d (entry nets) k c) (series_count d) ≡ f → nat_abs (size_at d (entry nets) k f) ≤ contracts_limit
      by (Some s) e = net-size d nets w k 0 s hk (omega arith) (first_at (held_future d (entry nets) k c) (series_count d) s e).0
      by None e = omega arith

pub spread_parts : (d : List ℕ) (n : ℕ → ℤ) (k c : ℕ)
    → spread_amount (spot_size d n k c) (spread_quantity d n k c) (spot_rate d c) (non_spot_rate d c) ≡ spread d n k c
unfolding spread non_spot_spread spot_spread
spread_parts d n k c = refl

-- ---- the sizes on the way to a spread margin: e the spot, q the quantity

module _ (e q : ℤ) (r₁ r₂ : ℕ) (he : nat_abs e ≤ contracts_limit) (hq : nat_abs q ≤ contracts_limit) (h₁ : r₁ ≤ price_limit) (h₂ : r₂ ≤ price_limit) where
  pub near_size : nat_abs (min_z e q) ≤ contracts_limit
  near_size = min_abs e q contracts_limit he hq

  pub twice_size : nat_abs (pos 2 *ℤ q) ≤ 2 * contracts_limit
  twice_size = nat_abs-*_le (pos 2) q 2 contracts_limit (omega arith) hq

  pub far_size : nat_abs (pos 2 *ℤ q -ℤ min_z e q) ≤ 3 * contracts_limit
  far_size = omega (arith, nat_abs-- (pos 2 *ℤ q) (min_z e q), near_size, twice_size)

  pub near_margin : nat_abs (min_z e q *ℤ pos r₁) ≤ worth_limit
  near_margin = nat_abs-*_le (min_z e q) (pos r₁) contracts_limit price_limit near_size h₁

  pub far_margin : nat_abs ((pos 2 *ℤ q -ℤ min_z e q) *ℤ pos r₂) ≤ 3 * worth_limit
  far_margin = nat_abs-*_le (pos 2 *ℤ q -ℤ min_z e q) (pos r₂) (3 * contracts_limit) price_limit far_size h₂

  pub spread_fits : nat_abs (spread_amount e q r₁ r₂) < 2 ^ 63
  spread_fits = omega (arith, nat_abs-+ (min_z e q *ℤ pos r₁) ((pos 2 *ℤ q -ℤ min_z e q) *ℤ pos r₂), near_margin, far_margin)

-- ---- and to what is left of a side

module _ (q before size : ℤ) (hq : nat_abs q ≤ contracts_limit) (hb : nat_abs before ≤ contracts_limit) (hs : nat_abs size ≤ contracts_limit) where
  pub rest_size : nat_abs (q -ℤ before) ≤ 2 * contracts_limit
  rest_size = omega (arith, nat_abs-- q before, hq, hb)

  pub taken_size : nat_abs (min_z size (max_z (q -ℤ before) (pos 0))) ≤ 2 * contracts_limit
  taken_size = min_abs size (max_z (q -ℤ before) (pos 0)) (2 * contracts_limit) (omega arith) (omega (arith, max-zero_abs (q -ℤ before), rest_size))

  pub left-size : nat_abs (left_over q before size) ≤ 3 * contracts_limit
  unfolding left_over
  left-size = omega (arith, nat_abs-- size (min_z size (max_z (q -ℤ before) (pos 0))), taken_size, hs)
