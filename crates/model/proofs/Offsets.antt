-- Step 6's offset of one amount: a debit remains, and the size of a credit is multiplied, divided and rounded down; so no amount grows.
use mathlib.Core.Path.{◌≡◌, refl, ap}
use mathlib.Core.Bool.{Bool, true, false}
use Prim.Native.Nat.{ℕ, suc, ◌*◌, ◌/◌, ◌≤◌}
use native.Mathlib.Nat.{not-suc-le-zero, le_refl, le_of_eq, mul-le-mul}
use native.Mathlib.Omega.{arith}
use borrow.Author.Tests.{ltb-true}
use lib.IntN.{ℤ, pos, negsuc, neg_ℤ, nat_abs}
use lib.Signed.{lt_z}
use Rattle.numbers.specs.Abs.{nat_abs-neg}
use Rattle.numbers.specs.Quot.{mul_quot_below}
use Rattle.model.specs.Limits.{whole_offset}
use Rattle.model.specs.Steps.{after_offset}

pub debit_after : (o : ℕ) (z : ℤ) → lt_z z (pos 0) ≡ false → after_offset o z ≡ z
unfolding after_offset
debit_after o z h = rw h

pub credit-after : (o : ℕ) (z : ℤ) → lt_z z (pos 0) ≡ true → after_offset o z ≡ neg_ℤ (pos (nat_abs z * o / whole_offset))
unfolding after_offset
credit-after o (pos n) h = absurd (not-suc-le-zero (ltb-true n 0 h))
credit-after o (negsuc n) h = mul_quot_below (suc n) o whole_offset

pub offset_abs : (o : ℕ) (z : ℤ) → o ≤ whole_offset → nat_abs (after_offset o z) ≤ nat_abs z
offset_abs o z h = by (lt_z z (pos 0)) refl
  where
    by : (b : Bool) → lt_z z (pos 0) ≡ b → nat_abs (after_offset o z) ≤ nat_abs z
    by true e = omega (arith, ap nat_abs (credit-after o z e), nat_abs-neg (pos (nat_abs z * o / whole_offset)), mul-le-mul (le_refl (nat_abs z)) h)
    by false e = le_of_eq (ap nat_abs (debit_after o z e))
