-- The size of an integer by the test of the code.
use Rattle.std.specs.Prelude.{◌≡◌, refl, Bool, true, false, not, ◌<◌, ltb, eqb, ℤ, pos, negsuc, nat_abs, ◌-ℤ◌}
use Rattle.std.proofs.Common.{sym, ap, ◌∙◌, true≢false, arith, ltb-true, lt-ltb, eqb-true, SFits, to_z, of_z, to_z-of_z}
use Rattle.std.proofs.Math.Decide.{ℕ_discrete}
use Rattle.std.proofs.lemmas.Bool.{eqb-false}
use Rattle.std.specs.Int.{w64}
use Rattle.std.specs.Int.Signed.{lt_z}
use Rattle.numbers.specs.Extremes.{abs_z}

pub below : (z : ℤ) → lt_z z (pos 0) ≡ true → pos 0 -ℤ z ≡ abs_z z
below (pos n) h = absurd (omega (arith, ltb-true n 0 h))
below (negsuc n) h = ap pos (omega arith)

pub not_below : (z : ℤ) → lt_z z (pos 0) ≡ false → z ≡ abs_z z
not_below (pos n) h = refl
not_below (negsuc n) h = absurd (true≢false h)

-- the bits of an integer are 0 where it is
pub zero_test : (z : ℤ) → SFits w64 z → not (eqb (of_z w64 z) 0) ≡ ltb 0 (nat_abs z)
zero_test z h = by (eqb (of_z w64 z) 0) refl
  where
    none : (z : ℤ) → z ≡ pos 0 → ltb 0 (nat_abs z) ≡ false
    none z e = rw e

    zero_of : (z : ℤ) → nat_abs z ≡ 0 → z ≡ pos 0
    zero_of (pos n) e = ap pos e
    zero_of (negsuc n) e = absurd (omega arith)

    by : (t : Bool) → eqb (of_z w64 z) 0 ≡ t → not t ≡ ltb 0 (nat_abs z)
    by true e = sym (none z (sym (to_z-of_z h) ∙ ap (to_z w64) (eqb-true (of_z w64 z) 0 e)))
    by false e = sym (lt-ltb 0 (nat_abs z) (some (ℕ_discrete (nat_abs z) 0)))
      where
        some : Dec (nat_abs z ≡ 0) → 0 < nat_abs z
        some (yes q) = absurd (eqb-false (of_z w64 z) 0 e (ap (of_z w64) (zero_of z q)))
        some (no q) = omega arith
