-- A line depends on the positions of its group and book alone: where two families of nets and DVPs agree on these, the lines are the same.
use Rattle.std.specs.Prelude.{is_some}
use mathlib.Core.Path.{◌≡◌, refl, ap, ◌∙◌}
use mathlib.Core.Bool.{Bool, true, false, ◌&&◌, ◌||◌, cond}
use mathlib.Core.List.{List, [], ◌∷◌}
use Prim.Native.Nat.{ℕ, ◌+◌, ◌<◌}
use native.Mathlib.Omega.{arith}
use borrow.Author.Tests.{eqb-true}
use lib.Dec.{eqb}
use lib.IntN.{ℤ, pos, ◌+ℤ◌, ◌-ℤ◌, ◌*ℤ◌}
use Rattle.numbers.specs.Scan.{first_ext}
use Rattle.numbers.specs.Sums.{sum_to_ext, sum_where_ext}
use Rattle.numbers.specs.Extremes.{max_z, abs_z, largest_ext}
use Rattle.model.specs.DayFile.{class_count, series_count, series_type, series_class, series_group, group, offset, underlying, delivery_price, closing, is_future, is_security}
use Rattle.model.specs.Netting.{position}
use Rattle.model.specs.Steps
use Rattle.numbers.specs.Tests.{and_left}
use Rattle.model.proofs.Spreads.{spread_alike, non_spread_alike}
use Rattle.model.specs.Limits.{point_count}

-- the two families agree on the positions of group g in book k
pub record Agree (d : List ℕ) (n₁ v₁ n₂ v₂ : ℕ → ℤ) (k g : ℕ) : Type 0 where
  pub nets : (s x : ℕ) → s < series_count d → x < 2 → series_group d s ≡ g → n₁ (position k x s) ≡ n₂ (position k x s)
  pub dvps : (s x : ℕ) → s < series_count d → x < 2 → series_group d s ≡ g → v₁ (position k x s) ≡ v₂ (position k x s)

module _ (d : List ℕ) (n₁ v₁ n₂ v₂ : ℕ → ℤ) (k g : ℕ) (a : Agree d n₁ v₁ n₂ v₂ k g) where
  -- ---- a class of the group
  module _ (c : ℕ) (e : group d c ≡ g) where
    own : (s : ℕ) → Steps.of_class d c s ≡ true → series_group d s ≡ g
    unfolding series_group
    own s h = ap (group d) (eqb-true (series_class d s) c h) ∙ e

    abbrev o₁ : ℕ → ℤ
    o₁ = Steps.open_net n₁ k

    abbrev o₂ : ℕ → ℤ
    o₂ = Steps.open_net n₂ k

    open_same : (s : ℕ) → s < series_count d → Steps.of_class d c s ≡ true → o₁ s ≡ o₂ s
    open_same s p h = a.nets s 0 p (omega arith) (own s h)

    exercised_same : (s : ℕ) → s < series_count d → Steps.of_class d c s ≡ true → Steps.exercised_net n₁ k s ≡ Steps.exercised_net n₂ k s
    exercised_same s p h = a.nets s 1 p (omega arith) (own s h)

    dvp_same : (s : ℕ) → s < series_count d → Steps.of_class d c s ≡ true → Steps.open_dvp v₁ k s ≡ Steps.open_dvp v₂ k s
    dvp_same s p h = a.dvps s 0 p (omega arith) (own s h)

    future_same : (s : ℕ) → s < series_count d → Steps.future_of d c s ≡ true → o₁ s ≡ o₂ s
    future_same s p h = open_same s p (and_left (Steps.of_class d c s) (is_future (series_type d s)) h)

    spread_same : Steps.spread d n₁ k c ≡ Steps.spread d n₂ k c
    spread_same = spread_alike d n₁ n₂ k c future_same

    mtm_same : Steps.mtm d n₁ v₁ k c ≡ Steps.mtm d n₂ v₂ k c
    unfolding Steps.mtm
    mtm_same =
        sum_where_ext (series_count d) (Steps.marked_of d c) _ _
        (λ s p h.
        let q = and_left (Steps.of_class d c s) _ h in
        λ i.
        cond (is_security (series_type d s)) (Steps.worth d s (open_same s p q i) (pos (closing d s)) -ℤ dvp_same s p q i)
        (Steps.worth d s (open_same s p q i) (pos (underlying d c) -ℤ pos (delivery_price d s))))

    premium_same : Steps.premium d n₁ k c ≡ Steps.premium d n₂ k c
    unfolding Steps.premium
    premium_same =
        sum_where_ext (series_count d) (Steps.option_of d c) _ _
        (λ s p h.
        let q = and_left (Steps.of_class d c s) _ h in
        λ i. Steps.worth d s (open_same s p q i) (pos (closing d s)) +ℤ Steps.worth d s (exercised_same s p q i) (Steps.in_the_money d c s))

    counted_same : (s : ℕ) → s < series_count d → Steps.of_class d c s ≡ true → Steps.counted_net d n₁ k c s ≡ Steps.counted_net d n₂ k c s
    unfolding Steps.counted_net
    counted_same s p h = λ i. cond (is_future (series_type d s)) (non_spread_alike d n₁ n₂ k c future_same s p (open_same s p h) i) (open_same s p h i)

    point_same : (j : ℕ) → Steps.class_point d n₁ k c j ≡ Steps.class_point d n₂ k c j
    unfolding Steps.class_point
    point_same j =
        sum_where_ext (series_count d) (Steps.of_class d c) _ _
        (λ s p q i. Steps.worth d s (counted_same s p q i) (Steps.open_change d c s (counted_same s p q i) j) +ℤ Steps.worth d s (exercised_same s p q i) (Steps.exercised_change d c s j))

    type_same : (t : ℕ) → Steps.type_net d n₁ k c t ≡ Steps.type_net d n₂ k c t
    unfolding Steps.type_net
    type_same t = sum_where_ext (series_count d) (Steps.type_of d c t) _ _ (λ s p h. open_same s p (and_left (Steps.of_class d c s) _ h))

    minimum_same : Steps.minimum d n₁ k c ≡ Steps.minimum d n₂ k c
    unfolding Steps.minimum
    minimum_same = sum_to_ext Steps.minimum_types _ _ (λ i p. ap (λ (z : ℤ). abs_z z *ℤ pos (Steps.minimum_rate d c (i + 1))) (type_same (i + 1)))

  -- ---- the group

  classes_same : (f h : ℕ → ℤ) → ((c : ℕ) → group d c ≡ g → f c ≡ h c) → Steps.over_classes d g f ≡ Steps.over_classes d g h
  unfolding Steps.over_classes
  classes_same f h e = sum_where_ext (class_count d) (λ c. eqb (group d c) g) f h (λ c p q. e c (eqb-true (group d c) g q))

  group_point_same : (j : ℕ) → Steps.group_point d n₁ k g j ≡ Steps.group_point d n₂ k g j
  unfolding Steps.group_point
  group_point_same j = classes_same _ _ (λ c e. ap (Steps.after_offset (offset d c)) (point_same c e j))

  additional_same : Steps.additional d n₁ k g ≡ Steps.additional d n₂ k g
  unfolding Steps.additional
  additional_same = largest_ext point_count _ _ (λ j p. group_point_same j)

  group-spread_same : Steps.group_spread d n₁ k g ≡ Steps.group_spread d n₂ k g
  unfolding Steps.group_spread
  group-spread_same = classes_same _ _ spread_same

  group-mtm_same : Steps.group_mtm d n₁ v₁ k g ≡ Steps.group_mtm d n₂ v₂ k g
  unfolding Steps.group_mtm
  group-mtm_same = classes_same _ _ mtm_same

  group-premium_same : Steps.group_premium d n₁ k g ≡ Steps.group_premium d n₂ k g
  unfolding Steps.group_premium
  group-premium_same = classes_same _ _ premium_same

  group-minimum_same : Steps.group_minimum d n₁ k g ≡ Steps.group_minimum d n₂ k g
  unfolding Steps.group_minimum
  group-minimum_same = classes_same _ _ minimum_same

  requirement_same : Steps.requirement d n₁ k g ≡ Steps.requirement d n₂ k g
  unfolding Steps.requirement
  requirement_same = λ i. max_z (additional_same i) (group-minimum_same i)

  sum_same : Steps.group_sum d n₁ v₁ k g ≡ Steps.group_sum d n₂ v₂ k g
  unfolding Steps.group_sum
  sum_same = λ i. group-spread_same i +ℤ group-mtm_same i +ℤ group-premium_same i +ℤ requirement_same i

  pub margin_same : Steps.margin d n₁ v₁ k g ≡ Steps.margin d n₂ v₂ k g
  unfolding Steps.margin
  margin_same = ap Steps.margin_of sum_same

  residual_same : Steps.residual d n₁ v₁ k g ≡ Steps.residual d n₂ v₂ k g
  unfolding Steps.residual
  residual_same = ap Steps.residual_of sum_same

  pub amounts_same : Steps.line_amounts d n₁ v₁ k g ≡ Steps.line_amounts d n₂ v₂ k g
  unfolding Steps.line_amounts
  amounts_same = λ i. group-spread_same i ∷ group-mtm_same i ∷ group-premium_same i ∷ requirement_same i ∷ margin_same i ∷ residual_same i ∷ []

  -- ---- whether it stands

  stands_by : (s : ℕ) → s < series_count d → (b : Bool) → (b ≡ true → series_group d s ≡ g)
      → b && (Steps.held n₁ v₁ (position k 0 s) || Steps.held n₁ v₁ (position k 1 s)) ≡ b && (Steps.held n₂ v₂ (position k 0 s) || Steps.held n₂ v₂ (position k 1 s))
  stands_by s p true h =
      let q = h refl in
      λ i. (Steps.not_zero (a.nets s 0 p (omega arith) q i) || Steps.not_zero (a.dvps s 0 p (omega arith) q i))
      || (Steps.not_zero (a.nets s 1 p (omega arith) q i) || Steps.not_zero (a.dvps s 1 p (omega arith) q i))
  stands_by s p false h = refl

  pub line_same : Steps.has_line d n₁ v₁ k g ≡ Steps.has_line d n₂ v₂ k g
  unfolding Steps.has_line Steps.held_in
  line_same = ap is_some (first_ext _ _ (series_count d) (λ s p. stands_by s p (eqb (series_group d s) g) (eqb-true (series_group d s) g)))
