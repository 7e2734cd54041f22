-- Reading step by step: one byte or line more, as loops meet it, and that what is read lies within the text.
use Rattle.std.specs.Prelude.{◌≡◌, refl, Bool, true, false, cond, ◌&&◌, List, [], ◌∷◌, ltb, leb, eqb, ℤ, pos, neg_ℤ, nat_abs, length, take, get_or, Some, None, IfSome}
use Rattle.std.proofs.Common.{sym, ◌∙◌, true≢false, add-one, length-drop, take_all, drop-cons, to_z, of_z, to_z-of_z}
use Rattle.std.proofs.Math.Path.{ap}
use Prim.Native.Nat.{ℕ, zero, suc, ◌+◌, ◌*◌, ◌-◌, ◌^◌, ◌≤◌, ◌<◌}
use Rattle.std.proofs.Math.Nat.{pow-succ', pow-le-pow_right}
use native.Mathlib.Omega.{arith}
use borrow.Author.Tests.{lt-ltb, le-ltb, leb-true, ltb-true, eq-eqb, ne_eqb}
use Rattle.std.proofs.Math.ListN.{drop}
use Rattle.std.proofs.Math.Seq.{drop-length}
use Rattle.std.specs.Int.{w64}
use Rattle.numbers.specs.Abs.{nat_abs-neg, sfits_abs}
use Rattle.model.specs.TextReading.{NumberRead, AmountRead, begins, is_digit, of_digits, digits_read, decimal_read, behind, field_read, plus, minus, amount_read, line_bytes, lines_bytes}
use Rattle.numbers.specs.Tests.{and_left, and_right}

-- the part of a text from byte k on
pub part : (k : ℕ) (t : List ℕ) → take (length t - k) (drop k t) ≡ drop k t
part k t = take_all (length t - k) (drop k t) (omega (arith, length-drop k t))

-- ---- a digit more

module _ (t : List ℕ) (n k : ℕ) where
  pub digit_more : k < length t → is_digit (get_or t k 0) ≡ true → k < 19 → digits_read n k (drop k t) ≡ digits_read (10 * n + (get_or t k 0 - 48)) (k + 1) (drop (k + 1) t)
  unfolding digits_read
  digit_more h e l =
      let s : suc k ≡ k + 1 = omega arith in
      rw (drop-cons t k 0 h, e, lt-ltb k 19 l) (ap (λ (i : ℕ). digits_read (10 * n + (get_or t k 0 - 48)) (k + 1) (drop i t)) s)

  pub digit_twentieth : k < length t → is_digit (get_or t k 0) ≡ true → 19 ≤ k → digits_read n k (drop k t) ≡ None
  unfolding digits_read
  digit_twentieth h e l = rw (drop-cons t k 0 h, e, le-ltb k 19 l)

  pub digit_other : k < length t → is_digit (get_or t k 0) ≡ false → digits_read n k (drop k t) ≡ of_digits n k
  unfolding digits_read
  digit_other h e = rw (drop-cons t k 0 h, e)

  pub digits_end : k ≡ length t → digits_read n k (drop k t) ≡ of_digits n k
  unfolding digits_read
  digits_end e = rw (ap (λ (i : ℕ). drop i t) e ∙ drop-length t)

-- k digits say less than 10 ^ k
pub digit_low : (c : ℕ) → is_digit c ≡ true → 48 ≤ c
digit_low c e = leb-true 48 c (and_left (leb 48 c) (leb c 57) e)

digit_high : (c : ℕ) → is_digit c ≡ true → c ≤ 57
digit_high c e = leb-true c 57 (and_right (leb 48 c) (leb c 57) e)

pub digits_below : (n k c : ℕ) → n < 10 ^ k → is_digit c ≡ true → 10 * n + (c - 48) < 10 ^ (k + 1)
digits_below n k c h e = rw add-one (omega (arith, pow-succ' 10 k, digit_high c e))

pub digits_fit : (n k c : ℕ) → n < 10 ^ k → k < 19 → is_digit c ≡ true → 10 * n + (c - 48) < 10 ^ 19
digits_fit n k c h l e = let p : 10 ^ (k + 1) ≤ 10 ^ 19 = pow-le-pow_right {n = 10} (omega arith) {i = k + 1} {j = 19} (omega arith) in omega (arith, digits_below n k c h e)

-- ---- within the text

pub head_within : (h t : List ℕ) → begins h t ≡ true → length h ≤ length t
head_within [] t e = omega arith
head_within (h ∷ hs) [] e = absurd (true≢false (sym e))
head_within (h ∷ hs) (c ∷ cs) e = omega (arith, head_within hs cs (and_right (eqb c h) (begins hs cs) e))

abbrev used_by : NumberRead → ℕ
used_by (Some x) = x.1
used_by None = 0

of_digits_used : (n k : ℕ) → used_by (of_digits n k) ≤ k
of_digits_used n k = by (eqb k 0)
  where
    by : (b : Bool) → used_by (cond b None (Some (n, k))) ≤ k
    by true = omega arith
    by false = omega arith

digits_used : (t : List ℕ) (n k : ℕ) → used_by (digits_read n k t) ≤ k + length t
unfolding digits_read
digits_used [] n k = omega (arith, of_digits_used n k)
digits_used (c ∷ t) n k = by (is_digit c) (ltb k 19) (digits_used t (10 * n + (c - 48)) (k + 1))
  where
    by : (p q : Bool) → used_by (digits_read (10 * n + (c - 48)) (k + 1) t) ≤ k + 1 + length t → used_by (cond p (cond q (digits_read (10 * n + (c - 48)) (k + 1) t) None) (of_digits n k)) ≤ k + length (c ∷ t)
    by true true h = omega arith
    by true false h = omega arith
    by false q h = omega (arith, of_digits_used n k)

behind_used : (k : ℕ) (t : List ℕ) (x : NumberRead) → k ≤ length t → used_by x ≤ length (drop k t) → used_by (behind k x) ≤ length t
behind_used k t (Some x) h l = omega (arith, length-drop k t)
behind_used k t None h l = omega arith

decimal_used : (k : ℕ) (t : List ℕ) → k ≤ length t → used_by (behind k (decimal_read (drop k t))) ≤ length t
decimal_used k t h = behind_used k t (decimal_read (drop k t)) h (omega (arith, digits_used (drop k t) 0 0))

field_within : (t : List ℕ) → used_by (field_read t) ≤ length t
unfolding field_read
field_within t = by (begins (32 ∷ []) t) refl
  where
    by : (b : Bool) → begins (32 ∷ []) t ≡ b → used_by (cond b (behind 1 (decimal_read (drop 1 t))) None) ≤ length t
    by true e = decimal_used 1 t (head_within (32 ∷ []) t e)
    by false e = omega arith

pub number_within : (t : List ℕ) (n k : ℕ) → decimal_read t ≡ Some (n, k) → k ≤ length t
number_within t n k e = omega (arith, ap used_by e, digits_used t 0 0)

-- a field that was read: what it says, and that its bytes are the text's
pub record FieldTold (t : List ℕ) (n k : ℕ) : Type 0 where
  pub read : field_read t ≡ Some (n, k)
  pub within : k ≤ length t

pub field_told : {x : NumberRead} {t : List ℕ} {n k : ℕ} → x ≡ field_read t → x ≡ Some (n, k) → FieldTold t n k
field_told {t = t} e f = let r = sym e ∙ f in record { read = r; within = omega (arith, ap used_by r, field_within t) }

pub field_bound : (t : List ℕ) (x : NumberRead) → x ≡ field_read t → IfSome x (λ y. y.1 ≤ length t)
field_bound t None e = tt
field_bound t (Some y) e = let told : FieldTold t y.0 y.1 = field_told e refl in told.within

-- an amount's bytes, and its size
abbrev taken_by : AmountRead → ℕ
taken_by (Some x) = x.1
taken_by None = 0

abbrev size_of : AmountRead → ℕ
size_of (Some x) = nat_abs x.0
size_of None = 0

abbrev Sound : AmountRead → ℕ → Type 0
Sound x k = (taken_by x ≤ k) × (size_of x < 2 ^ 63)

plus_sound : (x : NumberRead) → Sound (plus x) (used_by x)
plus_sound None = (omega arith, omega arith)
plus_sound (Some x) = by (ltb x.0 (2 ^ 63)) refl
  where
    by : (b : Bool) → ltb x.0 (2 ^ 63) ≡ b → Sound (cond b (Some (pos x.0, x.1)) None) x.1
    by true e = (omega arith, ltb-true x.0 (2 ^ 63) e)
    by false e = (omega arith, omega arith)

minus_sound : (x : NumberRead) → Sound (minus x) (used_by x)
minus_sound None = (omega arith, omega arith)
minus_sound (Some x) = by (ltb 0 x.0 && ltb x.0 (2 ^ 63)) refl
  where
    by : (b : Bool) → (ltb 0 x.0 && ltb x.0 (2 ^ 63)) ≡ b → Sound (cond b (Some (neg_ℤ (pos x.0), x.1)) None) x.1
    by true e = (omega arith, rw (nat_abs-neg (pos x.0)) (ltb-true x.0 (2 ^ 63) (and_right (ltb 0 x.0) (ltb x.0 (2 ^ 63)) e)))
    by false e = (omega arith, omega arith)

amount_sound : (t : List ℕ) → Sound (amount_read t) (length t)
unfolding amount_read
amount_sound t = by (begins (32 ∷ 45 ∷ []) t) refl
  where
    by : (b : Bool) → begins (32 ∷ 45 ∷ []) t ≡ b → Sound (cond b (minus (behind 2 (decimal_read (drop 2 t)))) (plus (field_read t))) (length t)
    by true e =
        let p = minus_sound (behind 2 (decimal_read (drop 2 t))) in
        (omega (arith, p.0, decimal_used 2 t (head_within (32 ∷ 45 ∷ []) t e)), p.1)
    by false e = let p = plus_sound (field_read t) in (omega (arith, p.0, field_within t), p.1)

-- an amount that was read: the same, and that the machine's number is the amount
pub record AmountTold (t : List ℕ) (z : ℤ) (k : ℕ) : Type 0 where
  pub read : amount_read t ≡ Some (z, k)
  pub within : k ≤ length t
  pub is : to_z w64 (of_z w64 z) ≡ z

pub amount_told : {x : AmountRead} {t : List ℕ} {z : ℤ} {k : ℕ} → x ≡ amount_read t → x ≡ Some (z, k) → AmountTold t z k
amount_told {t = t} {z = z} e f =
    let r = sym e ∙ f in
    record {
      read = r;
      within = omega (arith, ap taken_by r, (amount_sound t).0);
      is = to_z-of_z (sfits_abs z (omega (arith, ap size_of r, (amount_sound t).1)));
    }

pub amount_bound : (t : List ℕ) (x : AmountRead) → x ≡ amount_read t → IfSome x (λ y. y.1 ≤ length t)
amount_bound t None e = tt
amount_bound t (Some y) e = let told : AmountTold t y.0 y.1 = amount_told e refl in told.within

-- ---- lines

module _ (t : List ℕ) (i : ℕ) where
  pub line-ends : i < length t → get_or t i 0 ≡ 10 → line_bytes (drop i t) ≡ 1
  unfolding line_bytes
  line-ends h e = rw (drop-cons t i 0 h, eq-eqb (get_or t i 0) 10 e)

  pub line_goes_on : i < length t → (get_or t i 0 ≡ 10 → ⊥) → i + line_bytes (drop i t) ≡ i + 1 + line_bytes (drop (i + 1) t)
  unfolding line_bytes
  line_goes_on h e =
      let s : suc i ≡ i + 1 = omega arith in
      let q : line_bytes (drop (suc i) t) ≡ line_bytes (drop (i + 1) t) = ap (λ (k : ℕ). line_bytes (drop k t)) s in
      rw (drop-cons t i 0 h, ne_eqb (get_or t i 0) 10 e) (omega (arith, q))

  pub line_cut : i ≡ length t → line_bytes (drop i t) ≡ 0
  unfolding line_bytes
  line_cut e = rw (ap (λ (k : ℕ). drop k t) e ∙ drop-length t)

pub line_within : (t : List ℕ) → line_bytes t ≤ length t
unfolding line_bytes
line_within [] = omega arith
line_within (c ∷ t) = by (eqb c 10) (line_within t)
  where
    by : (b : Bool) → line_bytes t ≤ length t → cond b 1 (suc (line_bytes t)) ≤ length (c ∷ t)
    by true h = omega arith
    by false h = omega arith

pub lines_none : (t : List ℕ) → lines_bytes t 0 ≡ 0
unfolding lines_bytes
lines_none t = refl

pub lines_more : (t : List ℕ) (n : ℕ) → lines_bytes t (n + 1) ≡ lines_bytes t n + line_bytes (drop (lines_bytes t n) t)
unfolding lines_bytes
lines_more t n = rw add-one

pub lines_within : (t : List ℕ) (n : ℕ) → lines_bytes t n ≤ length t
unfolding lines_bytes
lines_within t zero = omega arith
lines_within t (suc n) = omega (arith, lines_within t n, line_within (drop (lines_bytes t n) t), length-drop (lines_bytes t n) t)
