-- Decimal digits: one more, how many, and that the bound on their number does not matter where it is large enough.
use mathlib.Core.Path.{◌≡◌, refl, sym, ap, ◌∙◌}
use mathlib.Core.Bool.{Bool, true, false, cond, true≢false}
use mathlib.Core.List.{List, [], ◌∷◌, ◌++◌}
use Prim.Native.Nat.{ℕ, zero, suc, ◌+◌, ◌/◌, ◌%◌, ◌^◌, ◌≤◌, ◌<◌}
use native.Mathlib.Nat.{pow-succ'}
use native.Mathlib.Omega.{arith}
use borrow.Author.Tests.{lt-ltb, le-ltb, ltb-true}
use lib.Dec.{ltb}
use lib.IntN.{ℤ, pos, negsuc, nat_abs}
use lib.Signed.{lt_z}
use lib.ListN.{length, length-append}
use Rattle.model.specs.Printed.{digits, decimal, signed_decimal}

pub digits_one : (n : ℕ) → n < 10 → decimal n ≡ (48 + n) ∷ []
unfolding digits
digits_one n h = rw (lt-ltb n 10 h)

-- k digits are enough below 10 ^ k
pub digits_enough : (k n : ℕ) → n < 10 ^ suc k → digits (suc (suc k)) n ≡ digits (suc k) n
unfolding digits
digits_enough zero n h = rw (lt-ltb n 10 (omega arith))
digits_enough (suc k) n h =
    ap (λ (x : List ℕ). cond (ltb n 10) ((48 + n) ∷ []) (x ++ (48 + n % 10) ∷ [])) (digits_enough k (n / 10) (omega (arith, pow-succ' 10 (suc k))))

pub digits_more : (n : ℕ) → 10 ≤ n → n < 2 ^ 64 → decimal n ≡ decimal (n / 10) ++ (48 + n % 10) ∷ []
unfolding digits
digits_more n h l =
    ap (λ (t : Bool). cond t ((48 + n) ∷ []) (digits 19 (n / 10) ++ (48 + n % 10) ∷ [])) (le-ltb n 10 h)
    ∙ ap (λ (x : List ℕ). x ++ (48 + n % 10) ∷ []) (sym (digits_enough 18 (n / 10) (omega arith)))

pub digits-count : (k n : ℕ) → length (digits k n) ≤ k
unfolding digits
digits-count zero n = omega arith
digits-count (suc k) n = by (ltb n 10) (digits-count k (n / 10))
  where
    by : (t : Bool) → length (digits k (n / 10)) ≤ k → length (cond t ((48 + n) ∷ []) (digits k (n / 10) ++ (48 + n % 10) ∷ [])) ≤ suc k
    by true h = omega arith
    by false h = omega (arith, length-append (digits k (n / 10)) ((48 + n % 10) ∷ []))

pub decimal-length : (n : ℕ) → length (decimal n) ≤ 20
decimal-length n = digits-count 20 n

-- a tenth of a 64-bit number has a digit less
pub tenth_length : (n : ℕ) → n < 2 ^ 64 → length (decimal (n / 10)) ≤ 19
tenth_length n h = rw (digits_enough 18 (n / 10) (omega arith)) (digits-count 19 (n / 10))

pub signed_length : (z : ℤ) → length (signed_decimal z) ≤ 21
signed_length (pos n) = omega (arith, decimal-length n)
signed_length (negsuc n) = omega (arith, decimal-length (suc n))

-- an amount's text by its sign
pub signed_minus : (z : ℤ) → lt_z z (pos 0) ≡ true → signed_decimal z ≡ 45 ∷ decimal (nat_abs z)
signed_minus (pos n) e = absurd (omega (arith, ltb-true n 0 e))
signed_minus (negsuc n) e = refl

pub signed_plain : (z : ℤ) → lt_z z (pos 0) ≡ false → signed_decimal z ≡ decimal (nat_abs z)
signed_plain (pos n) e = refl
signed_plain (negsuc n) e = absurd (true≢false e)
