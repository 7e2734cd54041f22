-- The two numbers of a text tell what it is: 0 is a report's alone, 2 ^ 32 − 1 no refusal's, and the values are below 2 ^ 32.
use Rattle.std.specs.Prelude.{◌≡◌, refl, Bool, true, false, ◌&&◌, cond, List, [], ◌∷◌, ℕ, ◌-◌, ◌^◌, ◌≤◌, ◌<◌, ltb, leb, ℤ, drop, Option, Some, None}
use Rattle.std.proofs.Common.{ltb-true, leb-true}
use Rattle.model.specs.declared.TextSays.{TextSays}
use Rattle.model.specs.declared.TextSays.TheVariants.{Report, Refusal}
use Rattle.model.specs.Printed.{refused_head, margin_head, total_head}
use Rattle.model.specs.TextReading.{NumberRead, AmountRead, begins, ended, field_read, amount_read, lines_bytes, with_number, with_amount, refusal_of, place_read, refusal_read, account_read, fail_read, totals_read, last_read, lines_read, count_read, report_read, text_says}
use Rattle.numbers.specs.Tests.{and_left, and_right}
use Rattle.model.specs.Limits.{most_lines}

-- the line count of a report, and the two numbers of a refusal
abbrev pub Told : Option TextSays → Type 0
Told (Some (Report s)) = s.lines ≤ most_lines
Told (Some (Refusal number place)) = (0 < number) × (number < 2 ^ 32 - 1) × (place < 2 ^ 32)
Told None = Unit

either : (b : Bool) (x y : Option TextSays) → (b ≡ true → Told x) → Told y → Told (cond b x y)
either true x y p q = p refl
either false x y p q = q

number_told : (x : NumberRead) (f : ℕ → ℕ → Option TextSays) → ((n k : ℕ) → Told (f n k)) → Told (with_number x f)
number_told (Some x) f h = h x.0 x.1
number_told None f h = tt

amount_told : (x : AmountRead) (f : ℤ → ℕ → Option TextSays) → ((z : ℤ) (k : ℕ) → Told (f z k)) → Told (with_amount x f)
amount_told (Some x) f h = h x.0 x.1
amount_told None f h = tt

refusal_of_told : (number place : ℕ) (end : Bool) → Told (refusal_of number place end)
refusal_of_told number place end =
    let a = ltb 0 number in
    let b = ltb number (2 ^ 32 - 1) in
    let c = ltb place (2 ^ 32) in
    either (a && b && c && end) (Some (Refusal number place)) None
    (λ e.
    let p = and_left (a && b && c) end e in
    let q = and_left (a && b) c p in
    (ltb-true 0 number (and_left a b q), ltb-true number (2 ^ 32 - 1) (and_right a b q), ltb-true place (2 ^ 32) (and_right (a && b) c p)))
    tt

refusal_told : (t : List ℕ) → Told (refusal_read t)
unfolding refusal_read place_read
refusal_told t =
    number_told (field_read t) _ (λ number k. number_told (field_read (drop k t)) _ (λ place j. refusal_of_told number place (ended (drop j (drop k t)))))

totals_told : (n : ℕ) (t : List ℕ) → n ≤ most_lines → Told (totals_read n t)
unfolding totals_read fail_read account_read
totals_told n t h =
    amount_told (amount_read t) _
    (λ x i. amount_told (amount_read (drop i t)) _
    (λ y j. amount_told (amount_read (drop j (drop i t))) _
    (λ z k. either (ended (drop k (drop j (drop i t)))) _ None (λ e. h) tt)))

count_told : (n : ℕ) (t : List ℕ) → Told (count_read n t)
unfolding count_read lines_read last_read
count_told n t =
    let r = drop (lines_bytes (drop 1 t) n) (drop 1 t) in
    either (leb n most_lines && begins (10 ∷ []) t) _ None
    (λ e. either (begins total_head r) _ None (λ _. totals_told n (drop 5 r) (leb-true n most_lines (and_left (leb n most_lines) (begins (10 ∷ []) t) e))) tt)
    tt

pub text_told : (t : List ℕ) → Told (text_says t)
unfolding text_says report_read
text_told t =
    either (begins refused_head t) _ _ (λ e. refusal_told (drop 7 t))
    (either (begins margin_head t) _ None (λ e. number_told (field_read (drop 6 t)) _ (λ n k. count_told n (drop k (drop 6 t)))) tt)
