-- What row 18 asks of a class (U8), for a reader: the ten projected prices rise from downside 5 to upside 5, and the underlying price lies between the two next to it.
use Rattle.std.specs.Prelude.{◌≡◌, false, is_some, List, ℕ, ◌||◌, suc, ◌+◌, ◌≤◌, ◌<◌, ltb, Ok}
use Rattle.std.proofs.Common.{arith, ap, le_refl, le-ltb, ltb-false}
use native.Mathlib.Decide.{le_ind}
use Rattle.numbers.specs.Lists.{nothing_hit}
use Rattle.numbers.specs.Scan.{first_bad, any_below, first-none, first_clear}
use Rattle.numbers.specs.Tests.{or_left, or_right}
use Rattle.model.specs.DayFile.{class_count, underlying, projected}
use Rattle.model.specs.DayChecks.{projected_falls, row18, day_check}
use Rattle.model.specs.Limits.{point_count, downside1, upside1, upside5}
use Rattle.model.proofs.Accepted.{day_checked}

-- equal prices included
pub record InOrder (d : List ℕ) (c : ℕ) : Type 0 where
  pub rising : (j k : ℕ) → j ≤ k → k < point_count → projected d c j ≤ projected d c k
  pub not_below : projected d c downside1 ≤ underlying d c
  pub not_above : underlying d c ≤ projected d c upside1

module _ (d : List ℕ) (c : ℕ) where
  -- the classes that row 18 passes
  pub in_order : row18 d c ≡ false → InOrder d c
  unfolding row18 projected_falls
  in_order e =
      let a : (any_below upside5 (projected_falls d c) || ltb (underlying d c) (projected d c downside1)) ≡ false = or_left _ _ e in
      let clear = first_clear (projected_falls d c) upside5 (nothing_hit (first_bad (projected_falls d c) upside5) (or_left _ _ a)) in
      let next : (k : ℕ) → k < upside5 → projected d c k ≤ projected d c (suc k) =
      λ k l.
      let e : k + 1 ≡ suc k = omega arith in
      rw e at (ltb-false (projected d c (k + 1)) (projected d c k) (clear k l)) in
      record {
        rising = λ j k l m. le_ind (λ (i : ℕ). i < point_count → projected d c j ≤ projected d c i) (λ p. le_refl (projected d c j)) (λ i p w h. omega (arith, w (omega arith), next i (omega arith))) k l m;
        not_below = ltb-false (underlying d c) (projected d c downside1) (or_right _ _ a);
        not_above = ltb-false (projected d c upside1) (underlying d c) (or_right _ _ e);
      }

  -- .. are all that are in order
  pub passes : InOrder d c → row18 d c ≡ false
  unfolding row18 projected_falls
  passes o =
      let falls : any_below upside5 (projected_falls d c) ≡ false =
      ap is_some (first-none (projected_falls d c) upside5 (λ k l. le-ltb (projected d c (k + 1)) (projected d c k) (o.rising k (k + 1) (omega arith) (omega arith)))) in
      rw (falls, le-ltb (underlying d c) (projected d c downside1) o.not_below) (le-ltb (projected d c upside1) (underlying d c) o.not_above)

  -- so every class of an accepted day file is
  pub accepted-order : day_check d ≡ Ok tt → c < class_count d → InOrder d c
  accepted-order e l = in_order ((day_checked d e).at18 c l)
