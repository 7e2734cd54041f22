-- Reading inverts the writing: the text of a refusal says its number and place, that of a report the count and the totals of its words.
use Rattle.std.specs.Prelude.{◌≡◌, refl, List, [], ◌∷◌, ◌++◌, ℕ, ◌+◌, ◌*◌, ◌-◌, ◌^◌, ◌≤◌, ◌<◌, ℤ, nat_abs, length, drop, get_or, Ok, Err, Some}
use Rattle.std.proofs.Common.{ap, ◌∙◌, append_assoc, arith, lt-ltb, le-leb, drop_at, get_or-take, get_or-drop}
use Rattle.model.specs.declared.Check.{Check}
use Rattle.model.specs.declared.TextSays.TheVariants.{Report, Refusal}
use Rattle.model.proofs.Sizes.{amount_small}
use Rattle.model.specs.Answers.{number_of, place_of}
use Rattle.model.specs.Reading.{count_in, total_in, amount_in}
use Rattle.model.specs.Printed.{decimal, signed_decimal, number_field, amount_fields, lines_text, count_text, totals_text, report_text, refusal_text, printed, total_head}
use Rattle.model.specs.TextReading.{place_read, refusal_read, account_read, fail_read, totals_read, last_read, lines_read, count_read, report_read, text_says, report_says}
use Rattle.corollaries.specs.RefusalNumbers.{numbered}
use Rattle.corollaries.specs.TextFields.{field_back, amount_back, behind_field}
use Rattle.corollaries.specs.TextLines.{lines_bytes_lem}
use Rattle.model.specs.Limits.{most_lines}
use Rattle.model.specs.Report.{words_a_line}

totals_back : (n : ℕ) (x y z : ℤ) → nat_abs x < 2 ^ 63 → nat_abs y < 2 ^ 63 → nat_abs z < 2 ^ 63
    → totals_read n ((32 ∷ signed_decimal x) ++ ((32 ∷ signed_decimal y) ++ ((32 ∷ signed_decimal z) ++ (10 ∷ [])))) ≡ Some (Report (record { lines = n; ordinary = x; fail = y; account = z }))
unfolding totals_read fail_read account_read
totals_back n x y z hx hy hz =
    let c = (32 ∷ signed_decimal z) ++ (10 ∷ []) in
    let b = (32 ∷ signed_decimal y) ++ c in
    rw (
      amount_back x hx 32 refl (signed_decimal y ++ c),
      behind_field (signed_decimal x) b,
      amount_back y hy 32 refl (signed_decimal z ++ (10 ∷ [])),
      behind_field (signed_decimal y) c,
      amount_back z hz 10 refl [],
      behind_field (signed_decimal z) (10 ∷ []),
    )

numbers_back : (number place : ℕ) → 0 < number → number < 2 ^ 32 - 1 → place < 2 ^ 32
    → refusal_read (number_field number ++ (number_field place ++ (10 ∷ []))) ≡ Some (Refusal number place)
unfolding refusal_read place_read
numbers_back number place h l p =
    rw (
      field_back 32 refl (decimal place ++ (10 ∷ [])) number (omega arith),
      behind_field (decimal number) (number_field place ++ (10 ∷ [])),
      field_back 10 refl [] place (omega arith),
      behind_field (decimal place) (10 ∷ []),
      lt-ltb 0 number h,
      lt-ltb number (2 ^ 32 - 1) l,
      lt-ltb place (2 ^ 32) p,
    )

refusal_back : (number place : ℕ) → 0 < number → number < 2 ^ 32 - 1 → place < 2 ^ 32 → text_says (refusal_text number place) ≡ Some (Refusal number place)
unfolding text_says refusal_text
refusal_back number place h l p =
    ap (λ (t : List ℕ). refusal_read (32 ∷ t)) (append_assoc (decimal number) (number_field place) (10 ∷ [])) ∙ numbers_back number place h l p

-- the amount that stands at a total
total_at : (w : List ℕ) (i : ℕ) → amount_in w (4 + words_a_line * count_in w + 3 * i) ≡ amount_in (total_in w i) 0
total_at w i =
    let k = 4 + words_a_line * count_in w + 3 * i in
    let e : k + 0 ≡ k = omega arith in
    rw (get_or-take 3 (drop k w) 0 0 (omega arith), get_or-take 3 (drop k w) 1 0 (omega arith), get_or-take 3 (drop k w) 2 0 (omega arith), get_or-drop k w 0 0, get_or-drop k w 1 0, get_or-drop k w 2 0, e)

small : (w : List ℕ) (i : ℕ) → nat_abs (amount_in w i) < 2 ^ 63
small w i = amount_small (get_or w i 0) (get_or w (i + 1) 0) (get_or w (i + 2) 0)

totals_text_lem : (w : List ℕ) (i : ℕ) → totals_text w i
    ≡ total_head ++ ((32 ∷ signed_decimal (amount_in w (i + 3 * 0))) ++ ((32 ∷ signed_decimal (amount_in w (i + 3 * 1))) ++ ((32 ∷ signed_decimal (amount_in w (i + 3 * 2))) ++ (10 ∷ []))))
unfolding totals_text amount_fields
totals_text_lem w i = simp append_assoc

lines_back : (w : List ℕ) (n : ℕ) (r : List ℕ) → lines_read n (lines_text w n ++ (total_head ++ r)) ≡ totals_read n r
unfolding lines_read last_read
lines_back w n r = rw (lines_bytes_lem w n (total_head ++ r), drop_at (lines_text w n) (total_head ++ r) (length (lines_text w n)) refl)

count_back : (n : ℕ) (r : List ℕ) → n ≤ most_lines → text_says (count_text n ++ r) ≡ lines_read n r
unfolding text_says count_text report_read count_read
count_back n r h =
    ap (λ (t : List ℕ). report_read (32 ∷ t)) (append_assoc (decimal n) (10 ∷ []) r)
    ∙ rw (field_back 10 refl r n (omega arith), behind_field (decimal n) (10 ∷ r), le-leb n most_lines h)

report_back : (w : List ℕ) → count_in w ≤ most_lines → text_says (report_text w) ≡ report_says w
unfolding report_text
report_back w h =
    let n = count_in w in
    let i = 4 + words_a_line * n in
    rw (append_assoc, count_back n (lines_text w n ++ totals_text w i) h, totals_text_lem w i)
    (lines_back w n _
    ∙ totals_back n (amount_in w (i + 3 * 0)) (amount_in w (i + 3 * 1)) (amount_in w (i + 3 * 2)) (small w (i + 3 * 0)) (small w (i + 3 * 1)) (small w (i + 3 * 2))
    ∙ λ k. Some (Report (record { lines = n; ordinary = total_at w 0 k; fail = total_at w 1 k; account = total_at w 2 k })))

-- ---- the text of an answer

pub refusal_read_back : (k : Check) (w : List ℕ) → place_of k < 2 ^ 32 → text_says (printed (Err k) w) ≡ Some (Refusal (number_of k) (place_of k))
refusal_read_back k w h = refusal_back (number_of k) (place_of k) (numbered k).0 (omega (arith, (numbered k).1)) h

pub report_read_back : (n : ℕ) (w : List ℕ) → count_in w ≤ most_lines → text_says (printed (Ok n) w) ≡ report_says w
report_read_back n w h = report_back w h
