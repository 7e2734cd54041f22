-- A line that was written has no newline but its last byte.
use Rattle.std.specs.Prelude.{◌≡◌, refl, Bool, true, false, cond, List, [], ◌∷◌, ◌++◌, ℕ, zero, suc, ◌+◌, ◌*◌, ◌/◌, ◌%◌, ltb, eqb, ℤ, pos, negsuc, length, drop, get_or}
use Rattle.std.proofs.Common.{sym, subst, ◌∙◌, append_assoc, arith, ne_eqb, length-append, drop_at}
use Rattle.model.specs.Words.{payload, bits}
use Rattle.model.specs.Reading.{amount_in}
use Rattle.model.specs.Printed.{digits, decimal, signed_decimal, number_field, amount_fields, fail_head, ordinary_head, line_text, lines_text}
use Rattle.model.specs.TextReading.{line_bytes, lines_bytes}
use Rattle.model.specs.Report.{words_a_line}

-- no newline in a
abbrev OneLine : List ℕ → Type 0
OneLine a = (r : List ℕ) → line_bytes (a ++ r) ≡ length a + line_bytes r

byte_line : (c : ℕ) (a : List ℕ) → (c ≡ 10 → ⊥) → OneLine a → OneLine (c ∷ a)
unfolding line_bytes
byte_line c a n o r = rw (ne_eqb c 10 n, o r) (omega arith)

both_lines : (a b : List ℕ) → OneLine a → OneLine b → OneLine (a ++ b)
both_lines a b p q r = rw append_assoc (omega (arith, p (b ++ r), q r, length-append a b))

nothing_line : OneLine []
nothing_line r = omega arith

digits-line : (k n : ℕ) → OneLine (digits k n)
unfolding digits
digits-line zero n = nothing_line
digits-line (suc k) n = by (ltb n 10) (digits-line k (n / 10))
  where
    one : (d : ℕ) → OneLine ((48 + d) ∷ [])
    one d = byte_line (48 + d) [] (λ e. omega (arith, e)) nothing_line

    by : (t : Bool) → OneLine (digits k (n / 10)) → OneLine (cond t ((48 + n) ∷ []) (digits k (n / 10) ++ (48 + n % 10) ∷ []))
    by true o = one n
    by false o = both_lines (digits k (n / 10)) ((48 + n % 10) ∷ []) o (one (n % 10))

signed_line : (z : ℤ) → OneLine (signed_decimal z)
signed_line (pos n) = digits-line 20 n
signed_line (negsuc n) = byte_line 45 (decimal (suc n)) (λ e. omega (arith, e)) (digits-line 20 (suc n))

fields_line : (w : List ℕ) (i n : ℕ) → OneLine (amount_fields w i n)
unfolding amount_fields
fields_line w i zero = nothing_line
fields_line w i (suc n) =
    let z = amount_in w (i + 3 * n) in
    both_lines (amount_fields w i n) (32 ∷ signed_decimal z) (fields_line w i n) (byte_line 32 (signed_decimal z) (λ e. omega (arith, e)) (signed_line z))

head_line : (b : Bool) → OneLine (cond b fail_head ordinary_head)
head_line true = byte_line 70 [] (λ e. omega (arith, e)) nothing_line
head_line false = byte_line 79 [] (λ e. omega (arith, e)) nothing_line

-- a line without its newline, and then with it
ended-line : (a r : List ℕ) → OneLine a → line_bytes ((a ++ (10 ∷ [])) ++ r) ≡ length (a ++ (10 ∷ []))
unfolding line_bytes
ended-line a r o = rw append_assoc (o (10 ∷ r) ∙ sym (length-append a (10 ∷ [])))

line_bytes_lem : (w : List ℕ) (i : ℕ) (r : List ℕ) → line_bytes (line_text w i ++ r) ≡ length (line_text w i)
unfolding line_text
line_bytes_lem w i r =
    let p = payload (get_or w i 0) in
    let h = cond (eqb (bits p 5 1) 1) fail_head ordinary_head in
    let n = number_field (bits p 0 5) in
    let f = amount_fields w (i + 1) 6 in
    ended-line (h ++ n ++ f) r
    (both_lines (h ++ n) f (both_lines h n (head_line (eqb (bits p 5 1) 1)) (byte_line 32 (decimal (bits p 0 5)) (λ e. omega (arith, e)) (digits-line 20 (bits p 0 5)))) (fields_line w (i + 1) 6))

pub lines_bytes_lem : (w : List ℕ) (n : ℕ) (r : List ℕ) → lines_bytes (lines_text w n ++ r) n ≡ length (lines_text w n)
unfolding lines_text lines_bytes
lines_bytes_lem w zero r = refl
lines_bytes_lem w (suc n) r =
    let l = lines_text w n in
    let t = line_text w (3 + words_a_line * n) in
    let e : lines_bytes (l ++ (t ++ r)) n ≡ length l = lines_bytes_lem w n (t ++ r) in
    subst (λ (x : List ℕ). lines_bytes x n + line_bytes (drop (lines_bytes x n) x) ≡ length (l ++ t)) (sym (append_assoc l t r))
    (rw (e, drop_at l (t ++ r) (length l) refl, line_bytes_lem w (3 + words_a_line * n) r) (sym (length-append l t)))
