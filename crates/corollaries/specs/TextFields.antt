-- A number and an amount that were written are read back.
use Rattle.std.specs.Prelude.{◌≡◌, refl, Bool, true, false, cond, List, [], ◌∷◌, ◌++◌, ℕ, zero, suc, ◌+◌, ◌*◌, ◌-◌, ◌/◌, ◌%◌, ◌^◌, ◌≤◌, ◌<◌, ltb, ℤ, pos, negsuc, nat_abs, length, drop, Some}
use Rattle.std.proofs.Common.{sym, ◌∙◌, append_assoc, arith, length-append, drop_at}
use Rattle.std.proofs.Math.Path.{ap}
use Rattle.std.proofs.Math.Nat.{pow-succ'}
use borrow.Author.Tests.{lt-ltb, le-leb, ne_eqb, ltb-true}
use Rattle.model.specs.Printed.{digits, decimal, signed_decimal, number_field}
use Rattle.model.specs.TextReading.{begins, is_digit, digits_read, decimal_read, behind, field_read, amount_read}
use Rattle.model.proofs.Digits.{digits_enough, digits-count}

is_digit_lem : (n : ℕ) → n < 10 → is_digit (48 + n) ≡ true
is_digit_lem n h = rw (le-leb 48 (48 + n) (omega arith), le-leb (48 + n) 57 (omega arith))

-- one digit more
digit_read : (m k d : ℕ) (r : List ℕ) → d < 10 → k < 19 → digits_read m k ((48 + d) ∷ r) ≡ digits_read (10 * m + d) (k + 1) r
unfolding digits_read
digit_read m k d r h l =
    let e : 48 + d - 48 ≡ d = omega arith in
    rw (is_digit_lem d h, lt-ltb k 19 l, e)

digits_read_lem : (k n : ℕ) → k ≤ 19 → n < 10 ^ k → (r : List ℕ) → digits_read 0 0 (digits k n ++ r) ≡ digits_read n (length (digits k n)) r
unfolding digits
digits_read_lem zero n h l r = let e : n ≡ 0 = omega arith in rw e
digits_read_lem (suc k) n h l r = by (ltb n 10) refl (digits_read_lem k (n / 10) (omega arith) (omega (arith, pow-succ' 10 k)))
  where
    by : (t : Bool) → ltb n 10 ≡ t → ((s : List ℕ) → digits_read 0 0 (digits k (n / 10) ++ s) ≡ digits_read (n / 10) (length (digits k (n / 10))) s)
        → digits_read 0 0 (cond t ((48 + n) ∷ []) (digits k (n / 10) ++ (48 + n % 10) ∷ []) ++ r) ≡ digits_read n (length (cond t ((48 + n) ∷ []) (digits k (n / 10) ++ (48 + n % 10) ∷ []))) r
    by true e ih = let a : 10 * 0 + n ≡ n = omega arith in digit_read 0 0 n r (ltb-true n 10 e) (omega arith) ∙ (λ i. digits_read (a i) 1 r)
    by false e ih =
        let a : 10 * (n / 10) + n % 10 ≡ n = omega arith in
        let b : length (digits k (n / 10)) + 1 ≡ length (digits k (n / 10) ++ (48 + n % 10) ∷ []) = sym (length-append (digits k (n / 10)) ((48 + n % 10) ∷ [])) in
        ap (digits_read 0 0) (append_assoc (digits k (n / 10)) ((48 + n % 10) ∷ []) r)
        ∙ ih ((48 + n % 10) ∷ r)
        ∙ digit_read (n / 10) (length (digits k (n / 10))) (n % 10) r (omega arith) (omega (arith, digits-count k (n / 10)))
        ∙ (λ i. digits_read (a i) (b i) r)

digits_some : (k n : ℕ) → 0 < length (digits (suc k) n)
unfolding digits
digits_some k n = by (ltb n 10)
  where
    by : (t : Bool) → 0 < length (cond t ((48 + n) ∷ []) (digits k (n / 10) ++ (48 + n % 10) ∷ []))
    by true = omega arith
    by false = omega (arith, length-append (digits k (n / 10)) ((48 + n % 10) ∷ []))

-- what follows a number is no digit
module _ (c : ℕ) (other : is_digit c ≡ false) (r : List ℕ) where
  decimal_back : (n : ℕ) → n < 10 ^ 19 → decimal_read (decimal n ++ (c ∷ r)) ≡ Some (n, length (decimal n))
  unfolding digits_read
  decimal_back n h =
      rw (digits_enough 18 n h) (digits_read_lem 19 n (omega arith) h (c ∷ r) ∙ rw (other, ne_eqb (length (digits 19 n)) 0 (λ e. omega (arith, e, digits_some 18 n))))

  pub field_back : (n : ℕ) → n < 10 ^ 19 → field_read (number_field n ++ (c ∷ r)) ≡ Some (n, 1 + length (decimal n))
  unfolding field_read
  field_back n h = ap (behind 1) (decimal_back n h)

-- its first byte is a digit
no_minus-before : (d : ℕ) (s : List ℕ) → begins (45 ∷ []) ((48 + d) ∷ s) ≡ false
no_minus-before d s = rw (ne_eqb (48 + d) 45 (λ e. omega (arith, e)))

no_minus : (k n : ℕ) (r : List ℕ) → begins (45 ∷ []) (digits (suc k) n ++ r) ≡ false
unfolding digits
no_minus zero n r = by (ltb n 10)
  where
    by : (t : Bool) → begins (45 ∷ []) (cond t ((48 + n) ∷ []) ((48 + n % 10) ∷ []) ++ r) ≡ false
    by true = no_minus-before n r
    by false = no_minus-before (n % 10) r
no_minus (suc k) n r = by (ltb n 10) (no_minus k (n / 10) ((48 + n % 10) ∷ r))
  where
    by : (t : Bool) → begins (45 ∷ []) (digits (suc k) (n / 10) ++ ((48 + n % 10) ∷ r)) ≡ false → begins (45 ∷ []) (cond t ((48 + n) ∷ []) (digits (suc k) (n / 10) ++ (48 + n % 10) ∷ []) ++ r) ≡ false
    by true e = no_minus-before n r
    by false e = ap (begins (45 ∷ [])) (append_assoc (digits (suc k) (n / 10)) ((48 + n % 10) ∷ []) r) ∙ e

pub amount_back : (z : ℤ) → nat_abs z < 2 ^ 63 → (c : ℕ) → is_digit c ≡ false → (r : List ℕ) → amount_read ((32 ∷ signed_decimal z) ++ (c ∷ r)) ≡ Some (z, 1 + length (signed_decimal z))
unfolding amount_read
amount_back (pos n) h c o r = rw (no_minus 19 n (c ∷ r), field_back c o r n (omega arith), lt-ltb n (2 ^ 63) h)
amount_back (negsuc n) h c o r =
    rw (decimal_back c o r (suc n) (omega arith), lt-ltb 0 (suc n) (omega arith), lt-ltb (suc n) (2 ^ 63) h)
    (ap (λ (k : ℕ). Some (negsuc n, k)) (omega arith))

-- the text behind a field
pub behind_field : (a r : List ℕ) → drop (1 + length a) ((32 ∷ a) ++ r) ≡ r
behind_field a r = drop_at (32 ∷ a) r (1 + length a) (omega arith)
