-- The size and the sign of an i64, as the machine tests them and turns them; and an unsigned number below 2 ^ 63 as an i64.
use Rattle.std.specs.Prelude.{ℕ, ◌<◌, ◌^◌, ◌≡◌, refl, true, false, T, ℤ, pos, negsuc, nat_abs, neg_ℤ, ◌-ℤ◌}
use Rattle.std.proofs.Common.{◌∙◌, subst, arith, ltb-true, Fits, SFits, to_z, of_z, to_z-of_z}
use Rattle.std.proofs.Math.IntN.{+ℤ_idl}
use Rattle.std.specs.Int.Signed.{lt_z, non_neg}
use Rattle.std.specs.Int.{w64}
use Rattle.std.proofs.Math.Facts.{to_z_pos}
use Rattle.numbers.specs.Abs.{nat_abs-neg, sfits_abs}
use Rattle.model.specs.Words.{sign_bit}

neg_non_neg : (z : ℤ) → lt_z z (pos 0) ≡ true → T (non_neg (neg_ℤ z))
neg_non_neg (pos n) e = let h = ltb-true n 0 e in absurd (omega arith)
neg_non_neg (negsuc n) e = tt

pos_non_neg : (z : ℤ) → lt_z z (pos 0) ≡ false → T (non_neg z)
pos_non_neg (pos n) e = tt
pos_non_neg (negsuc n) e = subst T e tt

sign_below : (z : ℤ) → lt_z z (pos 0) ≡ true → 2 ^ 28 ≡ sign_bit z
sign_below (pos n) e = let h = ltb-true n 0 e in absurd (omega arith)
sign_below (negsuc n) e = refl

sign_not : (z : ℤ) → lt_z z (pos 0) ≡ false → 0 ≡ sign_bit z
sign_not (pos n) e = refl
sign_not (negsuc n) e = absurd (subst T e tt)

-- what a local that holds z is, as the machine reads it
module _ (z : ℤ) (f : SFits w64 z) where
  pub sign_set : lt_z (to_z w64 (of_z w64 z)) (pos 0) ≡ true → 2 ^ 28 ≡ sign_bit z
  sign_set e = sign_below z (rw (to_z-of_z f) at e)

  pub sign_clear : lt_z (to_z w64 (of_z w64 z)) (pos 0) ≡ false → 0 ≡ sign_bit z
  sign_clear e = sign_not z (rw (to_z-of_z f) at e)

  module _ (h : nat_abs z < 2 ^ 63) where
    pub plus_cast : lt_z (to_z w64 (of_z w64 z)) (pos 0) ≡ false → T (non_neg (to_z w64 (of_z w64 z))) × Fits w64 (nat_abs (to_z w64 (of_z w64 z)))
    plus_cast e = rw (to_z-of_z f) (pos_non_neg z (rw (to_z-of_z f) at e), record { fits = omega arith })

    pub plus_abs : nat_abs (to_z w64 (of_z w64 z)) ≡ nat_abs z
    plus_abs = rw (to_z-of_z f)

    pub minus_fits : SFits w64 (pos 0 -ℤ to_z w64 (of_z w64 z))
    minus_fits = rw (to_z-of_z f, +ℤ_idl) (sfits_abs (neg_ℤ z) (rw nat_abs-neg h))

    minus_back : to_z w64 (of_z w64 (pos 0 -ℤ to_z w64 (of_z w64 z))) ≡ neg_ℤ z
    minus_back = to_z-of_z minus_fits ∙ rw (to_z-of_z f, +ℤ_idl)

    pub minus_cast : lt_z (to_z w64 (of_z w64 z)) (pos 0) ≡ true
        → T (non_neg (to_z w64 (of_z w64 (pos 0 -ℤ to_z w64 (of_z w64 z))))) × Fits w64 (nat_abs (to_z w64 (of_z w64 (pos 0 -ℤ to_z w64 (of_z w64 z)))))
    minus_cast e = rw minus_back (neg_non_neg z (rw (to_z-of_z f) at e), rw nat_abs-neg (record { fits = omega arith }))

    pub minus_abs : nat_abs (to_z w64 (of_z w64 (pos 0 -ℤ to_z w64 (of_z w64 z)))) ≡ nat_abs z
    minus_abs = rw minus_back (nat_abs-neg z)

-- a u64 below 2 ^ 63 as an i64, and its negative
module _ (m : ℕ) (h : m < 2 ^ 63) where
  pub as_pos : to_z w64 m ≡ pos m
  as_pos = to_z_pos w64 h

  pub less_fits : SFits w64 (pos 0 -ℤ to_z w64 m)
  less_fits = rw (as_pos, +ℤ_idl) (sfits_abs (neg_ℤ (pos m)) (rw nat_abs-neg h))

  pub less_back : to_z w64 (of_z w64 (pos 0 -ℤ to_z w64 m)) ≡ neg_ℤ (pos m)
  less_back = to_z-of_z less_fits ∙ rw (as_pos, +ℤ_idl)
