-- U6: an offset of the whole leaves every amount; an offset in percent, as files had it before, leaves the same in hundredths of a percent.
use Rattle.std.specs.Prelude.{◌≡◌, refl, cond, ℕ, suc, ◌*◌, ◌/◌, ℤ, pos, negsuc, neg_ℤ, ◌*ℤ◌}
use Rattle.std.proofs.Common.{sym, ap, ◌∙◌, mul_left_comm, mul-div_cancel, arith, le-ltb, lit<}
use Rattle.std.proofs.Math.Nat.{mul-div-mul_left}
use Rattle.std.specs.Int.Signed.{lt_z, quot_z}
use Rattle.numbers.specs.Quot.{mul_quot_below}
use Rattle.model.specs.Limits.{whole_offset}
use Rattle.model.specs.Steps.Additional.{after_offset}
use Rattle.model.proofs.Offsets.{debit_after, credit-after}

pub whole_after : (z : ℤ) → after_offset whole_offset z ≡ z
whole_after (pos n) = debit_after whole_offset (pos n) (le-ltb n 0 (omega arith))
whole_after (negsuc n) = credit-after whole_offset (negsuc n) refl ∙ ap (λ (m : ℕ). neg_ℤ (pos m)) (mul-div_cancel (suc n) (lit< tt))

-- step 6 as it was with offsets in percent
unfoldable pub after_percent : ℕ → ℤ → ℤ
after_percent p z = cond (lt_z z (pos 0)) (quot_z (z *ℤ pos p) (pos 100)) z

-- so an earlier file whose offsets are multiplied by 100 keeps its amounts
pub percent-after : (p : ℕ) (z : ℤ) → after_offset (100 * p) z ≡ after_percent p z
unfolding after_percent
percent-after p (pos n) = debit_after (100 * p) (pos n) (le-ltb n 0 (omega arith)) ∙ rw (le-ltb n 0 (omega arith))
percent-after p (negsuc n) =
    credit-after (100 * p) (negsuc n) refl
    ∙ ap (λ (m : ℕ). neg_ℤ (pos m)) (ap (λ (m : ℕ). m / whole_offset) (mul_left_comm (suc n) 100 p) ∙ mul-div-mul_left (suc n * p) 100 (lit< tt))
    ∙ sym (mul_quot_below (suc n) p 100)
