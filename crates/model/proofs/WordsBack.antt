-- What is written as words reads back: a payload, an amount of three words; and minus zero is never written.
use mathlib.Core.Path.{◌≡◌, refl}
use mathlib.Core.Logic.{◌⊎◌, inl, inr}
use Prim.Native.Nat.{ℕ, ◌+◌, ◌*◌, ◌/◌, ◌%◌, ◌^◌, ◌<◌}
use native.Mathlib.Omega.{arith}
use lib.IntN.{ℤ, pos, negsuc, nat_abs}
use Rattle.model.specs.Words.{payload, word, magnitude, negative, amount, high_word, middle_word, low_word}

pub payload-word : (k p : ℕ) → p < 2 ^ 29 → payload (word k p) ≡ p
payload-word k p h = omega arith

joined : (m : ℕ) → m / 2 ^ 58 * 2 ^ 58 + m / 2 ^ 29 % 2 ^ 29 * 2 ^ 29 + m % 2 ^ 29 ≡ m
joined m = omega arith

-- s is 0 or 2 ^ 28, t the top five bits
high_low : (s t : ℕ) → s ≡ 0 ⊎ s ≡ 2 ^ 28 → t < 2 ^ 5 → payload (word 5 (s + t)) % 2 ^ 5 ≡ t
high_low s t (inl e) h = rw e (omega arith)
high_low s t (inr e) h = rw e (omega arith)

magnitude_back : (z : ℤ) (s : ℕ) → s ≡ 0 ⊎ s ≡ 2 ^ 28 → nat_abs z < 2 ^ 63 → magnitude (word 5 (s + nat_abs z / 2 ^ 58)) (middle_word z) (low_word z) ≡ nat_abs z
magnitude_back z s e h =
    let t : nat_abs z / 2 ^ 58 < 2 ^ 5 = omega arith in
    rw (high_low s (nat_abs z / 2 ^ 58) e t, payload-word 6 (nat_abs z / 2 ^ 29 % 2 ^ 29) (omega arith), payload-word 6 (nat_abs z % 2 ^ 29) (omega arith)) (joined (nat_abs z))

pub amount_back : (z : ℤ) → nat_abs z < 2 ^ 63 → amount (high_word z) (middle_word z) (low_word z) ≡ z
amount_back (pos n) h =
    let s : negative (high_word (pos n)) ≡ 0 = omega arith in
    rw (s, magnitude_back (pos n) 0 (inl refl) h)
amount_back (negsuc n) h =
    let s : negative (high_word (negsuc n)) ≡ 1 = omega arith in
    rw (s, magnitude_back (negsuc n) (2 ^ 28) (inr refl) h)

-- minus zero is never written: a sign bit stands with a magnitude above 0
pub no_minus-zero : (z : ℤ) → nat_abs z < 2 ^ 63 → negative (high_word z) ≡ 1 → 0 < magnitude (high_word z) (middle_word z) (low_word z)
no_minus-zero (pos n) h e = absurd (omega arith)
no_minus-zero (negsuc n) h e = rw (magnitude_back (negsuc n) (2 ^ 28) (inr refl) h) (omega arith)
