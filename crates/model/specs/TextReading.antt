-- What a printed text says, for any bytes: the line count and the totals of a report, the number and the place of a refusal, or none of the two.
use Rattle.std.specs.Prelude.{Bool, true, false, ◌&&◌, cond, List, [], ◌∷◌, ℕ, zero, suc, ◌+◌, ◌*◌, ◌-◌, ◌^◌, ltb, leb, eqb, ℤ, pos, neg_ℤ, length, drop, Ok, Err, Option, Some, None}
use Rattle.model.specs.Outcomes.{Answer}
use Rattle.model.specs.declared.TextSays.{TextSays}
use Rattle.model.specs.declared.TextSays.TheVariants.{Report, Refusal}
use Rattle.model.specs.declared.ReportTotals.{ReportTotals}
use Rattle.model.specs.Answers.{number_of, place_of}
use Rattle.model.specs.Reading.{count_in, total_in, amount_in}
use Rattle.model.specs.Printed.{margin_head, total_head, refused_head}
use Rattle.model.specs.Limits.{most_lines}

-- ---- fixed bytes

-- the text begins with the head
abbrev pub begins : List ℕ → List ℕ → Bool
begins [] t = true
begins (h ∷ hs) [] = false
begins (h ∷ hs) (c ∷ cs) = eqb c h && begins hs cs

-- a newline and nothing more
abbrev pub ended : List ℕ → Bool
ended t = begins (10 ∷ []) t && eqb (length t) 1

-- ---- numbers at the front of a text, with the bytes that they take

abbrev pub NumberRead : Type 0
NumberRead = Option (ℕ × ℕ)

abbrev pub AmountRead : Type 0
AmountRead = Option (ℤ × ℕ)

-- 0 to 9
abbrev pub is_digit : ℕ → Bool
is_digit c = leb 48 c && leb c 57

-- a number of k digits; none where k is 0
abbrev pub of_digits : ℕ → ℕ → NumberRead
of_digits n k = cond (eqb k 0) None (Some (n, k))

-- k digits that say n are followed by t; 20 digits are no number
unfoldable pub digits_read : ℕ → ℕ → List ℕ → NumberRead
digits_read n k [] = of_digits n k
digits_read n k (c ∷ t) = cond (is_digit c) (cond (ltb k 19) (digits_read (10 * n + (c - 48)) (k + 1) t) None) (of_digits n k)

-- a number of 1 to 19 digits
abbrev pub decimal_read : List ℕ → NumberRead
decimal_read t = digits_read 0 0 t

-- the number that stands behind k bytes
abbrev pub behind : ℕ → NumberRead → NumberRead
behind k (Some x) = Some (x.0, k + x.1)
behind k None = None

-- a space and a number
unfoldable pub field_read : List ℕ → NumberRead
field_read t = cond (begins (32 ∷ []) t) (behind 1 (decimal_read (drop 1 t))) None

-- ---- amounts: below 2 ^ 63 in size, and no minus zero

abbrev pub plus : NumberRead → AmountRead
plus (Some x) = cond (ltb x.0 (2 ^ 63)) (Some (pos x.0, x.1)) None
plus None = None

abbrev pub minus : NumberRead → AmountRead
minus (Some x) = cond (ltb 0 x.0 && ltb x.0 (2 ^ 63)) (Some (neg_ℤ (pos x.0), x.1)) None
minus None = None

-- a space, a minus sign where it is negative, and its size
unfoldable pub amount_read : List ℕ → AmountRead
amount_read t = cond (begins (32 ∷ 45 ∷ []) t) (minus (behind 2 (decimal_read (drop 2 t)))) (plus (field_read t))

-- ---- lines

-- the bytes of the first line, its newline among them
unfoldable pub line_bytes : List ℕ → ℕ
line_bytes [] = 0
line_bytes (c ∷ t) = cond (eqb c 10) 1 (suc (line_bytes t))

-- the bytes of the first n lines
unfoldable pub lines_bytes : List ℕ → ℕ → ℕ
lines_bytes t zero = 0
lines_bytes t (suc n) = lines_bytes t n + line_bytes (drop (lines_bytes t n) t)

-- ---- the whole text

-- what f says of the number and its bytes
abbrev pub with_number : NumberRead → (ℕ → ℕ → Option TextSays) → Option TextSays
with_number (Some x) f = f x.0 x.1
with_number None f = None

abbrev pub with_amount : AmountRead → (ℤ → ℕ → Option TextSays) → Option TextSays
with_amount (Some x) f = f x.0 x.1
with_amount None f = None

-- a refusal, where the text ends behind its place; its number is none of the two that `text_number` gives to other texts
abbrev pub refusal_of : ℕ → ℕ → Bool → Option TextSays
refusal_of number place end = cond (ltb 0 number && ltb number (2 ^ 32 - 1) && ltb place (2 ^ 32) && end) (Some (Refusal number place)) None

-- behind a refusal's number: its place
unfoldable pub place_read : ℕ → List ℕ → Option TextSays
place_read number t = with_number (field_read t) λ place k. refusal_of number place (ended (drop k t))

-- behind the head of a refusal: its number and place
unfoldable pub refusal_read : List ℕ → Option TextSays
refusal_read t = with_number (field_read t) λ number k. place_read number (drop k t)

-- the last line of a report of n lines, behind its second total, its first, and its head
unfoldable pub account_read : ℕ → ℤ → ℤ → List ℕ → Option TextSays
account_read n ordinary fail t =
    with_amount (amount_read t) λ account k.
    cond (ended (drop k t)) (Some (Report (record { lines = n; ordinary = ordinary; fail = fail; account = account }))) None

unfoldable pub fail_read : ℕ → ℤ → List ℕ → Option TextSays
fail_read n ordinary t = with_amount (amount_read t) λ fail k. account_read n ordinary fail (drop k t)

unfoldable pub totals_read : ℕ → List ℕ → Option TextSays
totals_read n t = with_amount (amount_read t) λ ordinary k. fail_read n ordinary (drop k t)

-- the last line
unfoldable pub last_read : ℕ → List ℕ → Option TextSays
last_read n t = cond (begins total_head t) (totals_read n (drop 5 t)) None

-- behind the first line: n lines, which are passed over, and the last line
unfoldable pub lines_read : ℕ → List ℕ → Option TextSays
lines_read n t = last_read n (drop (lines_bytes t n) t)

-- behind the line count, which is at most that of all lines
unfoldable pub count_read : ℕ → List ℕ → Option TextSays
count_read n t = cond (leb n most_lines && begins (10 ∷ []) t) (lines_read n (drop 1 t)) None

-- behind the head of a report
unfoldable pub report_read : List ℕ → Option TextSays
report_read t = with_number (field_read t) λ n k. count_read n (drop k t)

-- a refusal's head, or a report's
unfoldable pub text_says : List ℕ → Option TextSays
text_says t = cond (begins refused_head t) (refusal_read (drop 7 t)) (cond (begins margin_head t) (report_read (drop 6 t)) None)

-- ---- what the text of an answer says, by the answer and the report's words w

abbrev pub report_says : List ℕ → Option TextSays
report_says w =
    Some (Report (record { lines = count_in w; ordinary = amount_in (total_in w 0) 0; fail = amount_in (total_in w 1) 0; account = amount_in (total_in w 2) 0 }))

abbrev pub answer_says : Answer → List ℕ → Option TextSays
answer_says (Ok n) w = report_says w
answer_says (Err k) w = Some (Refusal (number_of k) (place_of k))

-- ---- the two numbers of a text: 0 and the line count, a refusal's number and place, or 2 ^ 32 − 1 and 0

abbrev pub text_number : Option TextSays → ℕ
text_number (Some (Report s)) = 0
text_number (Some (Refusal number place)) = number
text_number None = 2 ^ 32 - 1

abbrev pub text_value : Option TextSays → ℕ
text_value (Some (Report s)) = s.lines
text_value (Some (Refusal number place)) = place
text_value None = 0

-- a number lent for a total, afterwards: the total of a report, else as it was
abbrev pub total_after : (ReportTotals → ℤ) → Option TextSays → ℤ → ℤ
total_after f (Some (Report s)) z = f s
total_after f (Some (Refusal number place)) z = z
total_after f None z = z
