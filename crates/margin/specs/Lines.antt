-- The six amounts of a line from the sums over the group's classes.
use Rattle.std.specs.Prelude.{◌≡◌, ℕ, ◌≤◌, ◌+◌, ℤ, pos, nat_abs, ◌+ℤ◌}
use Rattle.std.proofs.Math.Path.{ap}
use Rattle.std.proofs.Common.{◌∙◌, arith}
use mathlib.Core.List.{List, [], ◌∷◌}
use Rattle.std.proofs.Math.ListN.{get_or}
use Rattle.numbers.specs.Abs.{nat_abs-+}
use Rattle.numbers.specs.Extremes.{max_z, largest, largest_ext, largest_abs, max_abs}
use Rattle.numbers.specs.Table.{get_or-tabulate}
use Rattle.margin.specs.declared.group.Amounts.{Amounts}
use Rattle.model.specs.Limits.{worth_limit, mtm_limit, spread_limit, margin_limit, point_count}
use Rattle.model.specs.DayFile.{class_count}
use Rattle.model.specs.Steps.Classes.{over_classes}
use Rattle.model.specs.Steps.Additional.{group_point, additional}
use Rattle.model.specs.Steps.Minimum.{group_minimum, requirement}
use Rattle.model.specs.Steps.Margin.{margin_of, residual_of, group_spread, group_mtm, group_premium, group_sum, margin, residual, line_amounts}
use Rattle.margin.specs.Groups.{offset_point, over, amounts_below, Small}

-- additional requirement of ten sums and a minimum
abbrev pub requirement_of : List ℤ → ℤ → ℤ
requirement_of at q = max_z (largest point_count (λ j. get_or at j (pos 0))) q

abbrev pub sum_of : ℤ → ℤ → ℤ → ℤ → ℤ
sum_of s t p r = s +ℤ t +ℤ p +ℤ r

module _ (d : List ℕ) (n v : ℕ → ℤ) (k g : ℕ) (a : Amounts) (o : a ≡ amounts_below d n v k g (class_count d)) where
  additional_is : largest point_count (λ j. get_or a.points.at j (pos 0)) ≡ additional d n k g
  unfolding additional group_point over_classes
  additional_is =
      largest_ext point_count (λ j. get_or a.points.at j (pos 0)) (group_point d n k g)
      (λ j h. ap (λ (x : Amounts). get_or x.points.at j (pos 0)) o ∙ get_or-tabulate point_count (λ j. over d g (class_count d) (offset_point d n k j)) j (pos 0) h)

  requirement_is : requirement_of a.points.at a.minimum ≡ requirement d n k g
  unfolding requirement group_minimum over_classes
  requirement_is = λ i. max_z (additional_is i) (o i).minimum

  abbrev total : ℤ
  total = sum_of a.spread a.mtm a.premium (requirement_of a.points.at a.minimum)

  sum_is : total ≡ group_sum d n v k g
  unfolding group_sum group_spread group_mtm group_premium over_classes
  sum_is = λ i. sum_of (o i).spread (o i).mtm (o i).premium (requirement_is i)

  pub line_is : (a.spread ∷ a.mtm ∷ a.premium ∷ requirement_of a.points.at a.minimum ∷ margin_of total ∷ residual_of total ∷ []) ≡ line_amounts d n v k g
  unfolding line_amounts group_spread group_mtm group_premium over_classes margin residual
  line_is = λ i. (o i).spread ∷ (o i).mtm ∷ (o i).premium ∷ requirement_is i ∷ margin_of (sum_is i) ∷ residual_of (sum_is i) ∷ []

pub requirement-size : (a : Amounts) → Small a → nat_abs (requirement_of a.points.at a.minimum) ≤ worth_limit
requirement-size a w =
    max_abs (largest point_count (λ j. get_or a.points.at j (pos 0))) a.minimum worth_limit
    (largest_abs point_count (λ j. get_or a.points.at j (pos 0)) worth_limit w.points_small) w.minimum_small

-- the sums on the way
module _ (s t p r : ℤ) (hs : nat_abs s ≤ spread_limit) (ht : nat_abs t ≤ mtm_limit) (hp : nat_abs p ≤ worth_limit)
    (hr : nat_abs r ≤ worth_limit) where
  pub two_size : nat_abs (s +ℤ t) ≤ spread_limit + mtm_limit
  two_size = omega (arith, nat_abs-+ s t)

  pub three-size : nat_abs (s +ℤ t +ℤ p) ≤ spread_limit + mtm_limit + worth_limit
  three-size = omega (arith, nat_abs-+ (s +ℤ t) p, two_size)

  pub sum-size : nat_abs (sum_of s t p r) ≤ margin_limit
  sum-size = omega (arith, nat_abs-+ (s +ℤ t +ℤ p) r, three-size)
