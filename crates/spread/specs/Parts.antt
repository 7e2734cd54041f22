-- What the machine makes of the parts of a spread margin, and of what is left of a side: the results fit, and are the exact ones.
use Rattle.std.specs.Prelude.{◌≡◌, refl, ℕ, ◌≤◌, ℤ, pos, neg_ℤ, nat_abs, ◌+ℤ◌, ◌-ℤ◌, ◌*ℤ◌}
use Rattle.std.proofs.Common.{ap, ◌∙◌, arith, SFits}
use Rattle.std.specs.Int.{w64, int_max, int_min}
use Rattle.numbers.specs.Abs.{back, fits_by, nat_abs-neg}
use Rattle.numbers.specs.Extremes.{min_z, max_z, max-zero_abs}
use Rattle.numbers.specs.Machine.{i64_of, max_is, min_is, sub_fits, sub_is}
use Rattle.model.specs.Limits.{contracts_limit, price_limit}
use Rattle.model.specs.Steps.Spread.{short_side, long_side, left_over}
use Rattle.spread.specs.Sides.{spread_amount, non_spread_of}
use Rattle.spread.specs.Laws.{near_size, twice_size, far_size, near_margin, far_margin, spread_fits, rest_size, taken_size, left-size}

-- e the spot, q the spread quantity
module _ (e q : ℤ) (r₁ r₂ : ℕ) (he : nat_abs e ≤ contracts_limit) (hq : nat_abs q ≤ contracts_limit) (h₁ : r₁ ≤ price_limit) (h₂ : r₂ ≤ price_limit)
    {near one two : ℤ} (p : near ≡ int_min (i64_of e) (i64_of q)) (s : one ≡ pos r₁) (t : two ≡ pos r₂) where
  near_is : i64_of near ≡ min_z e q
  near_is =
      back (p ∙ (λ i. int_min (back {v = e} refl (omega arith) i) (back {v = q} refl (omega arith) i)) ∙ min_is e q)
      (omega (arith, near_size e q r₁ r₂ he hq h₁ h₂))

  far_is : i64_of (i64_of (pos 2 *ℤ i64_of q) -ℤ i64_of near) ≡ pos 2 *ℤ q -ℤ min_z e q
  far_is =
      let twice = back (ap (λ x. pos 2 *ℤ x) (back {v = q} refl (omega arith))) (omega (arith, twice_size e q r₁ r₂ he hq h₁ h₂)) in
      back (λ i. twice i -ℤ near_is i) (omega (arith, far_size e q r₁ r₂ he hq h₁ h₂))

  far_part : i64_of (i64_of (pos 2 *ℤ i64_of q) -ℤ i64_of near) *ℤ i64_of two ≡ (pos 2 *ℤ q -ℤ min_z e q) *ℤ pos r₂
  far_part = λ i. far_is i *ℤ back t (omega arith) i

  parts : i64_of (i64_of near *ℤ i64_of one) +ℤ i64_of (i64_of (i64_of (pos 2 *ℤ i64_of q) -ℤ i64_of near) *ℤ i64_of two) ≡ spread_amount e q r₁ r₂
  parts = λ i.
      back (λ j. near_is j *ℤ back s (omega arith) j) (omega (arith, near_margin e q r₁ r₂ he hq h₁ h₂)) i
      +ℤ back far_part (omega (arith, far_margin e q r₁ r₂ he hq h₁ h₂)) i

  pub far_fits : SFits w64 (i64_of (i64_of (pos 2 *ℤ i64_of q) -ℤ i64_of near) *ℤ i64_of two)
  far_fits = fits_by far_part (omega (arith, far_margin e q r₁ r₂ he hq h₁ h₂))

  pub parts_fit : SFits w64 (i64_of (i64_of near *ℤ i64_of one) +ℤ i64_of (i64_of (i64_of (pos 2 *ℤ i64_of q) -ℤ i64_of near) *ℤ i64_of two))
  parts_fit = fits_by parts (spread_fits e q r₁ r₂ he hq h₁ h₂)

  pub parts_are : i64_of (i64_of (i64_of near *ℤ i64_of one) +ℤ i64_of (i64_of (i64_of (pos 2 *ℤ i64_of q) -ℤ i64_of near) *ℤ i64_of two)) ≡ spread_amount e q r₁ r₂
  parts_are = back parts (spread_fits e q r₁ r₂ he hq h₁ h₂)

-- q the spread quantity, of which the earlier series took b; z the size of a side
module _ (q b z : ℤ) (hq : nat_abs q ≤ contracts_limit) (hb : nat_abs b ≤ contracts_limit) (hz : nat_abs z ≤ contracts_limit)
    {rest least : ℤ} (p : rest ≡ int_max (i64_of (i64_of q -ℤ i64_of b)) (pos 0)) (r : least ≡ int_min (i64_of z) (i64_of rest)) where
  rest_is : i64_of rest ≡ max_z (q -ℤ b) (pos 0)
  rest_is =
      back (p ∙ ap (λ x. int_max x (pos 0)) (sub_is {u = q} {v = b} refl refl (omega arith)) ∙ max_is (q -ℤ b) (pos 0))
      (omega (arith, max-zero_abs (q -ℤ b), rest_size q b z hq hb hz))

  taken : least ≡ min_z z (max_z (q -ℤ b) (pos 0))
  taken = r ∙ (λ i. int_min (back {v = z} refl (omega arith) i) (rest_is i)) ∙ min_is z (max_z (q -ℤ b) (pos 0))

  pub left_fits : SFits w64 (i64_of z -ℤ i64_of least)
  left_fits = sub_fits {u = z} refl taken (omega (arith, taken_size q b z hq hb hz))

  pub left_is : i64_of (i64_of z -ℤ i64_of least) ≡ left_over q b z
  unfolding left_over
  left_is = sub_is {u = z} refl taken (omega (arith, taken_size q b z hq hb hz))

-- both sides of a net z: of q the earlier series took a, short, and l, long
module _ (q a l z : ℤ) (hq : nat_abs q ≤ contracts_limit) (ha : nat_abs a ≤ contracts_limit) (hl : nat_abs l ≤ contracts_limit) (hz : nat_abs z ≤ contracts_limit)
    {s t short long : ℤ} (ps : s ≡ short_side (i64_of z)) (pt : t ≡ long_side (i64_of z))
    (p : short ≡ left_over (i64_of q) (i64_of a) (i64_of s)) (r : long ≡ left_over (i64_of q) (i64_of l) (i64_of t)) where
  short_small : nat_abs (short_side z) ≤ contracts_limit
  short_small = omega (arith, max-zero_abs z)

  long_small : nat_abs (long_side z) ≤ contracts_limit
  long_small = omega (arith, max-zero_abs (neg_ℤ z), nat_abs-neg z)

  same : (x : ℤ) → nat_abs x ≤ contracts_limit → i64_of x ≡ x
  same x h = back refl (omega arith)

  short_is : short ≡ left_over q a (short_side z)
  short_is = p ∙ (λ i. left_over (same q hq i) (same a ha i) (back (ps ∙ ap short_side (same z hz)) (omega (arith, short_small)) i))

  long_is : long ≡ left_over q l (long_side z)
  long_is = r ∙ (λ i. left_over (same q hq i) (same l hl i) (back (pt ∙ ap long_side (same z hz)) (omega (arith, long_small)) i))

  pub non_spread_fits : SFits w64 (i64_of short -ℤ i64_of long)
  non_spread_fits = sub_fits short_is long_is (omega (arith, left-size q a (short_side z) hq ha short_small, left-size q l (long_side z) hq hl long_small))

  pub non_spread_is : i64_of (i64_of short -ℤ i64_of long) ≡ non_spread_of q a l z
  non_spread_is = sub_is short_is long_is (omega (arith, left-size q a (short_side z) hq ha short_small, left-size q l (long_side z) hq hl long_small))
