-- The spread of a class, and what is left of each net, depend on the nets of its open futures alone.
use Rattle.std.specs.Prelude.{Option, Some, None}
use mathlib.Core.Path.{◌≡◌, refl, ap, ◌∙◌}
use mathlib.Core.Bool.{Bool, true, false, ◌&&◌}
use mathlib.Core.List.{List}
use Prim.Native.Nat.{ℕ, ◌<◌}
use native.Mathlib.Omega.{arith}
use lib.IntN.{ℤ, pos, ◌+ℤ◌, ◌-ℤ◌, ◌*ℤ◌}
use Rattle.numbers.specs.Scan.{first_bad, first_at, first_ext}
use Rattle.numbers.specs.Sums.{sum_where_ext}
use Rattle.numbers.specs.Extremes.{min_z, abs_z}
use Rattle.numbers.specs.Tests.{and_left}
use Rattle.model.specs.DayFile.{series_count, spot_rate, non_spot_rate}
use Rattle.model.specs.Steps

module _ (d : List ℕ) (n₁ n₂ : ℕ → ℤ) (k c : ℕ)
    (future_same : (s : ℕ) → s < series_count d → Steps.future_of d c s ≡ true → Steps.open_net n₁ k s ≡ Steps.open_net n₂ k s) where
  abbrev o₁ : ℕ → ℤ
  o₁ = Steps.open_net n₁ k

  abbrev o₂ : ℕ → ℤ
  o₂ = Steps.open_net n₂ k

  short_same : Steps.total_short d n₁ k c ≡ Steps.total_short d n₂ k c
  unfolding Steps.total_short
  short_same = sum_where_ext (series_count d) (Steps.future_of d c) _ _ (λ s p h. ap Steps.short_side (future_same s p h))

  long_same : Steps.total_long d n₁ k c ≡ Steps.total_long d n₂ k c
  unfolding Steps.total_long
  long_same = sum_where_ext (series_count d) (Steps.future_of d c) _ _ (λ s p h. ap Steps.long_side (future_same s p h))

  quantity_same : Steps.spread_quantity d n₁ k c ≡ Steps.spread_quantity d n₂ k c
  quantity_same = λ i. min_z (long_same i) (short_same i)

  held_by : (b : Bool) (x y : ℤ) → (b ≡ true → x ≡ y) → b && Steps.not_zero x ≡ b && Steps.not_zero y
  held_by true x y h = ap Steps.not_zero (h refl)
  held_by false x y h = refl

  held_same : (s : ℕ) → s < series_count d → Steps.held_future d n₁ k c s ≡ Steps.held_future d n₂ k c s
  unfolding Steps.held_future
  held_same s p = held_by (Steps.future_of d c s) (o₁ s) (o₂ s) (future_same s p)

  size_same : (f : Option ℕ) → first_bad (Steps.held_future d n₁ k c) (series_count d) ≡ f → Steps.size_at d n₁ k f ≡ Steps.size_at d n₂ k f
  unfolding Steps.held_future
  size_same (Some s) h =
      let z = first_at (Steps.held_future d n₁ k c) (series_count d) s h in
      ap abs_z (future_same s z.0 (and_left (Steps.future_of d c s) (Steps.not_zero (o₁ s)) z.1))
  size_same None h = refl

  spot_same : Steps.spot_size d n₁ k c ≡ Steps.spot_size d n₂ k c
  unfolding Steps.spot_size
  spot_same =
      size_same (first_bad (Steps.held_future d n₁ k c) (series_count d)) refl
      ∙ ap (Steps.size_at d n₂ k) (first_ext (Steps.held_future d n₁ k c) (Steps.held_future d n₂ k c) (series_count d) held_same)

  spot_spread_same : Steps.spot_spread d n₁ k c ≡ Steps.spot_spread d n₂ k c
  unfolding Steps.spot_spread
  spot_spread_same = λ i. min_z (spot_same i) (quantity_same i)

  non_spot_same : Steps.non_spot_spread d n₁ k c ≡ Steps.non_spot_spread d n₂ k c
  unfolding Steps.non_spot_spread
  non_spot_same = λ i. pos 2 *ℤ quantity_same i -ℤ spot_spread_same i

  pub spread_alike : Steps.spread d n₁ k c ≡ Steps.spread d n₂ k c
  unfolding Steps.spread
  spread_alike = λ i. spot_spread_same i *ℤ pos (spot_rate d c) +ℤ non_spot_same i *ℤ pos (non_spot_rate d c)

  short-before_same : (s : ℕ) → s < series_count d → Steps.short_before d n₁ k c s ≡ Steps.short_before d n₂ k c s
  unfolding Steps.short_before
  short-before_same s p = sum_where_ext s (Steps.future_of d c) _ _ (λ t q h. ap Steps.short_side (future_same t (omega arith) h))

  long-before_same : (s : ℕ) → s < series_count d → Steps.long_before d n₁ k c s ≡ Steps.long_before d n₂ k c s
  unfolding Steps.long_before
  long-before_same s p = sum_where_ext s (Steps.future_of d c) _ _ (λ t q h. ap Steps.long_side (future_same t (omega arith) h))

  pub non_spread_alike : (s : ℕ) → s < series_count d → o₁ s ≡ o₂ s → Steps.non_spread d n₁ k c s ≡ Steps.non_spread d n₂ k c s
  unfolding Steps.non_spread
  non_spread_alike s p h =
      λ i. Steps.left_over (quantity_same i) (short-before_same s p i) (Steps.short_side (h i))
      -ℤ Steps.left_over (quantity_same i) (long-before_same s p i) (Steps.long_side (h i))
