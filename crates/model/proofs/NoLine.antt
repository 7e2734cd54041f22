-- A group without a line in a book has six zero amounts there: dropping the line loses nothing.
use Rattle.std.specs.Prelude.{Option, Some, None}
use mathlib.Core.Path.{◌≡◌, refl, ap, ◌∙◌}
use mathlib.Core.Bool.{false, ◌&&◌, ◌||◌}
use mathlib.Core.List.{List, [], ◌∷◌}
use Prim.Native.Nat.{ℕ, zero, suc, ◌+◌, ◌<◌}
use native.Mathlib.Omega.{arith}
use borrow.Author.Tests.{ltb-false, eq-eqb}
use lib.Dec.{eqb}
use lib.IntN.{ℤ, pos, negsuc, ◌+ℤ◌, ◌-ℤ◌, ◌*ℤ◌, zero-*ℤ}
use Rattle.numbers.specs.Abs.{cond_ind}
use Rattle.numbers.specs.Scan.{first_bad, first_clear}
use Rattle.numbers.specs.Lists.{nothing_hit}
use Rattle.numbers.specs.Sums.{sum_to-zero, sum_to_ext, sum_where_zeros}
use Rattle.numbers.specs.Extremes.{min_z, max_z, abs_z, largest, largest_ext}
use Rattle.model.specs.DayFile.{class_count, group, spot_rate, non_spot_rate, offset, series_count, series_type, series_group, multiplier, underlying, delivery_price, closing, is_future, is_security}
use Rattle.model.specs.Netting.{position}
use Rattle.model.specs.Steps
use Rattle.numbers.specs.Tests.{or_left, or_right}
use Rattle.model.proofs.Offsets.{debit_after}
use Rattle.model.proofs.Lines.{amounts_same}
use Rattle.model.specs.Limits.{point_count}

abbrev six : List ℤ
six = pos 0 ∷ pos 0 ∷ pos 0 ∷ pos 0 ∷ pos 0 ∷ pos 0 ∷ []

pub no_size : (z : ℤ) → Steps.not_zero z ≡ false → z ≡ pos 0
no_size (pos n) e = ap pos (omega (arith, ltb-false 0 n e))
no_size (negsuc n) e = absurd (omega (arith, ltb-false 0 (suc n) e))

-- ---- every amount of a book without positions is zero

abbrev empty : ℕ → ℤ
empty p = pos 0

module _ (d : List ℕ) (k : ℕ) where
  no_worth : (s : ℕ) (z price : ℤ) → z ≡ pos 0 → Steps.worth d s z price ≡ pos 0
  no_worth s z price e =
      ap (λ (x : ℤ). Steps.worth d s x price) e ∙ ap (λ (x : ℤ). x *ℤ price) (zero-*ℤ (pos (multiplier d s))) ∙ zero-*ℤ price

  -- both sides of a net of 0 are 0
  no_short : (c s : ℕ) → Steps.short_before d empty k c s ≡ pos 0
  unfolding Steps.short_before
  no_short c s = sum_where_zeros s (Steps.future_of d c) _ (λ t. refl)

  no_long : (c s : ℕ) → Steps.long_before d empty k c s ≡ pos 0
  unfolding Steps.long_before
  no_long c s = sum_where_zeros s (Steps.future_of d c) _ (λ t. refl)

  no_quantity : (c : ℕ) → Steps.spread_quantity d empty k c ≡ pos 0
  unfolding Steps.total_short Steps.total_long Steps.short_before Steps.long_before
  no_quantity c = λ i. min_z (no_long c (series_count d) i) (no_short c (series_count d) i)

  no_size_at : (f : Option ℕ) → Steps.size_at d empty k f ≡ pos 0
  no_size_at (Some s) = refl
  no_size_at None = refl

  no_spread : (c : ℕ) → Steps.spread d empty k c ≡ pos 0
  unfolding Steps.spread Steps.non_spot_spread Steps.spot_spread Steps.spot_size
  no_spread c =
      let e = no_size_at (first_bad (Steps.held_future d empty k c) (series_count d)) in
      let q = no_quantity c in
      (λ i. min_z (e i) (q i) *ℤ pos (spot_rate d c) +ℤ (pos 2 *ℤ q i -ℤ min_z (e i) (q i)) *ℤ pos (non_spot_rate d c))
      ∙ (λ i. zero-*ℤ (pos (spot_rate d c)) i +ℤ zero-*ℤ (pos (non_spot_rate d c)) i)

  no_counted : (c s : ℕ) → Steps.counted_net d empty k c s ≡ pos 0
  unfolding Steps.counted_net Steps.non_spread Steps.left_over
  no_counted c s =
      cond_ind (is_future (series_type d s)) (Steps.non_spread d empty k c s) (pos 0) (λ z. z ≡ pos 0)
      (λ t. rw (no_quantity c, no_short c s, no_long c s)) (λ t. refl)

  no_mtm : (c : ℕ) → Steps.mtm d empty empty k c ≡ pos 0
  unfolding Steps.mtm
  no_mtm c =
      sum_where_zeros (series_count d) (Steps.marked_of d c) _
      (λ s.
      cond_ind (is_security (series_type d s)) (Steps.security_mtm d empty empty k s) (Steps.expired_mtm d empty k c s) (λ z. z ≡ pos 0)
      (λ t. ap (λ (z : ℤ). z -ℤ pos 0) (no_worth s (pos 0) (pos (closing d s)) refl))
      (λ t. no_worth s (pos 0) (pos (underlying d c) -ℤ pos (delivery_price d s)) refl))

  no_premium : (c : ℕ) → Steps.premium d empty k c ≡ pos 0
  unfolding Steps.premium
  no_premium c =
      sum_where_zeros (series_count d) (Steps.option_of d c) _
      (λ s i. no_worth s (pos 0) (pos (closing d s)) refl i +ℤ no_worth s (pos 0) (Steps.in_the_money d c s) refl i)

  no_point : (c j : ℕ) → Steps.class_point d empty k c j ≡ pos 0
  unfolding Steps.class_point
  no_point c j =
      sum_where_zeros (series_count d) (Steps.of_class d c) _
      (λ s i. no_worth s (Steps.counted_net d empty k c s) (Steps.open_change d c s (Steps.counted_net d empty k c s) j) (no_counted c s) i
      +ℤ no_worth s (pos 0) (Steps.exercised_change d c s j) refl i)

  no_minimum : (c : ℕ) → Steps.minimum d empty k c ≡ pos 0
  unfolding Steps.minimum Steps.type_net
  no_minimum c =
      sum_to_ext Steps.minimum_types _ (λ i. pos 0)
      (λ i h.
      ap (λ (z : ℤ). abs_z z *ℤ pos (Steps.minimum_rate d c (i + 1))) (sum_where_zeros (series_count d) (Steps.type_of d c (i + 1)) empty (λ s. refl))
      ∙ zero-*ℤ (pos (Steps.minimum_rate d c (i + 1))))
      ∙ sum_to-zero Steps.minimum_types

  module _ (g : ℕ) where
    no_classes : (f : ℕ → ℤ) → ((c : ℕ) → f c ≡ pos 0) → Steps.over_classes d g f ≡ pos 0
    unfolding Steps.over_classes
    no_classes f h = sum_where_zeros (class_count d) (λ c. eqb (group d c) g) f h

    no_additional : Steps.additional d empty k g ≡ pos 0
    unfolding Steps.additional Steps.group_point largest
    no_additional =
        largest_ext point_count _ (λ j. pos 0) (λ j h. no_classes _ (λ c. ap (Steps.after_offset (offset d c)) (no_point c j) ∙ debit_after (offset d c) (pos 0) refl))

    no_requirement : Steps.requirement d empty k g ≡ pos 0
    unfolding Steps.requirement Steps.group_minimum
    no_requirement = λ i. max_z (no_additional i) (no_classes (Steps.minimum d empty k) no_minimum i)

    no_amounts_lem : Steps.line_amounts d empty empty k g ≡ six
    unfolding Steps.line_amounts Steps.group_spread Steps.group_mtm Steps.group_premium Steps.margin Steps.residual Steps.group_sum
    no_amounts_lem =
        rw (
          no_classes (Steps.spread d empty k) no_spread,
          no_classes (Steps.mtm d empty empty k) no_mtm,
          no_classes (Steps.premium d empty k) no_premium,
          no_requirement,
        )

-- ---- a group without a line has only positions with net and DVP zero

module _ (d : List ℕ) (n v : ℕ → ℤ) (k g : ℕ) (e : Steps.has_line d n v k g ≡ false) where
  not-held : (s : ℕ) → s < series_count d → series_group d s ≡ g → Steps.held n v (position k 0 s) || Steps.held n v (position k 1 s) ≡ false
  unfolding Steps.has_line Steps.held_in
  not-held s h q =
      let z : eqb (series_group d s) g && (Steps.held n v (position k 0 s) || Steps.held n v (position k 1 s)) ≡ false =
      first_clear (Steps.held_in d n v k g) (series_count d) (nothing_hit (first_bad (Steps.held_in d n v k g) (series_count d)) e) s h
      in
      rw (eq-eqb (series_group d s) g q) at z

  not_at : (s x : ℕ) → s < series_count d → x < 2 → series_group d s ≡ g → Steps.held n v (position k x s) ≡ false
  not_at s zero h l q = or_left (Steps.held n v (position k 0 s)) (Steps.held n v (position k 1 s)) (not-held s h q)
  not_at s (suc zero) h l q = or_right (Steps.held n v (position k 0 s)) (Steps.held n v (position k 1 s)) (not-held s h q)
  not_at s (suc (suc x)) h l q = absurd (omega arith)

  pub no_line-zero : Steps.line_amounts d n v k g ≡ six
  no_line-zero =
      amounts_same d n v empty empty k g
      (record {
        nets = λ s x h l q. no_size (n (position k x s)) (or_left (Steps.not_zero (n (position k x s))) (Steps.not_zero (v (position k x s))) (not_at s x h l q));
        dvps = λ s x h l q. no_size (v (position k x s)) (or_right (Steps.not_zero (n (position k x s))) (Steps.not_zero (v (position k x s))) (not_at s x h l q));
      })
      ∙ no_amounts_lem d k g
