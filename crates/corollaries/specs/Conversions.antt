-- A batch converted to cents and from cents: what CentsClaims says of it.
use Rattle.std.specs.Prelude.{◌≡◌, true, false, not, ◌||◌, List, [], ◌∷◌, ◌++◌, ℕ, ◌+◌, ◌-◌, ◌%◌, ◌≤◌, ◌<◌, eqb, pos, ◌*ℤ◌, length, take, drop, get_or, Ok, Err}
use Rattle.std.proofs.Math.Path.{refl, sym, ap}
use Rattle.std.proofs.Common.{◌∙◌, arith, eqb-true, lt-ltb, le-ltb}
use Rattle.std.proofs.Math.Seq.{take_at}
use Rattle.numbers.specs.Quot.{quot_mul}
use Rattle.numbers.specs.Tests.{or_true}
use Rattle.model.specs.declared.Check.{Check}
use Rattle.model.specs.declared.Check.TheVariants.{BatchHeader, BatchWords}
use Rattle.model.specs.declared.BatchHeaderFault.TheVariants.{BadBatchHeader}
use Rattle.model.specs.declared.BatchWordsFault.TheVariants.{NotWholeCents, CentsTooLarge}
use Rattle.model.specs.Outcomes.{Answer, Verdict}
use Rattle.model.specs.Limits.{cents_limit, most_records}
use Rattle.model.specs.Words.{kind, payload, bits, amount, amount_words}
use Rattle.model.specs.DayChecks.{day_check}
use Rattle.model.specs.Batch.{batch_header, record_count, record_word, batch_words, record_of, field_of, dvp_amount, dvp_size}
use Rattle.model.specs.BatchChecks.{row20, batch_form, batch_check}
use Rattle.model.specs.Calls.{verdict, answer, needed, outcome, written}
use Rattle.model.specs.Locality.{record_at}
use Rattle.model.specs.Cents.{is_in_cents, cents_bit, unmarked, cent, record_with, with_amounts, to_cents, from_cents}
use Rattle.model.specs.CentsChecks.{row33, row34, to_cents_check, from_cents_check}
use Rattle.model.specs.CentsCalls.{to_cents_answer, to_cents_after, from_cents_answer, from_cents_after}
use Rattle.model.proofs.Accepted.{clear_back, plain_back}
use Rattle.model.proofs.Headed.{headed_header, headed_length, headed_word, words_of_headed}
use Rattle.model.proofs.Limits.{form_length}
use Rattle.model.proofs.Cents.{form_to, whole_cents, header_from, form_from}
use Rattle.model.proofs.Sizes.{size-amount}
use Rattle.model.proofs.Outcome.{outcome-passed, outcome-report, leaves_all, leaves_words}
use Rattle.model.proofs.Verdicts.{◌then◌, tried_pass, plain_failed, stage_failed, stage_passed}
use Rattle.corollaries.specs.CentsClaims.{ToCents, FromCents, Conversions}
use Rattle.corollaries.specs.OtherAmounts.{amounts_length, amounts_header, record_is, amount_is, word_is}
use Rattle.corollaries.specs.InCents.{cents, units, small_to, header_to_lem, back_passes_lem, back_lem, small_from, again_passes_lem, again_lem}
use Rattle.corollaries.specs.Numbers.{to_cents_numbers, from_cents_numbers}

-- ---- row 20 and the bit

-- with the bit there are too many records
bit_20 : (b : List ℕ) → is_in_cents b ≡ true → row20 b ≡ true
unfolding row20
bit_20 b e =
    let q = eqb-true (bits (payload (batch_header b)) 28 1) 1 e in
    ap (λ t. (eqb (length b) 0 || not (eqb (kind (batch_header b)) 1)) || t) (lt-ltb most_records (record_count b) (omega (arith, q)))
    ∙ or_true (eqb (length b) 0 || not (eqb (kind (batch_header b)) 1))

bit_form : (b : List ℕ) → is_in_cents b ≡ true → batch_form b ≡ Err (BatchHeader BadBatchHeader 0)
unfolding batch_form
bit_form b e = sym (plain_failed (BatchHeader BadBatchHeader) (row20 b) true (Err (BatchHeader BadBatchHeader 0)) _ (sym (bit_20 b e)) refl refl)

module _ (b : List ℕ) where
  set_bit_lem : is_in_cents b ≡ true → to_cents_check b ≡ Err (BatchHeader BadBatchHeader 0)
  unfolding to_cents_check
  set_bit_lem e = sym (stage_failed (batch_form b) (batch_form b) _ (BatchHeader BadBatchHeader 0) refl (bit_form b e))

  missing_bit_lem : is_in_cents b ≡ false → from_cents_check b ≡ Err (BatchHeader BadBatchHeader 0)
  unfolding from_cents_check
  missing_bit_lem e = sym (plain_failed (BatchHeader BadBatchHeader) (not (is_in_cents b)) true (Err (BatchHeader BadBatchHeader 0)) _ (sym (ap not e)) refl refl)

  rows_refuse_lem : (d : List ℕ) → is_in_cents b ≡ true → batch_check d b ≡ Err (BatchHeader BadBatchHeader 0)
  unfolding batch_check
  rows_refuse_lem d e = sym (stage_failed (batch_form b) (batch_form b) _ (BatchHeader BadBatchHeader 0) refl (bit_form b e))

  reports_refuse_lem : (d x : List ℕ) (room : ℕ) → day_check d ≡ Ok tt → is_in_cents b ≡ true → answer d b x room ≡ Err (BatchHeader BadBatchHeader 0)
  unfolding answer verdict
  reports_refuse_lem d x room day e =
      ap (λ (v : Verdict). outcome v (needed d b) room)
      (sym (stage_passed (day_check d) (day_check d) (Err (BatchHeader BadBatchHeader 0)) _ refl day
      (stage_failed (batch_check d b) (batch_check d b) _ (BatchHeader BadBatchHeader 0) refl (rows_refuse_lem d e))))

  passes_to_lem : batch_form b ≡ Ok tt → ((r : ℕ) → r < record_count b → dvp_size b r % cent ≡ 0) → ToCents b
  unfolding to_cents_check row33
  passes_to_lem e h = tried_pass _ (e then clear_back (BatchWords NotWholeCents) (row33 b) (record_count b) (λ r l. le-ltb 0 (dvp_size b r % cent) (omega (arith, h r l))) then tt)

  passes_from_lem : is_in_cents b ≡ true → batch_form (unmarked b) ≡ Ok tt → ((r : ℕ) → r < record_count (unmarked b) → dvp_size (unmarked b) r ≤ cents_limit) → FromCents b
  unfolding from_cents_check row34
  passes_from_lem e f h =
      let u = unmarked b in
      tried_pass _
      (plain_back (BatchHeader BadBatchHeader) _ (ap not e)
      then f
      then clear_back (BatchWords CentsTooLarge) (row34 u) (record_count u) (λ r l. le-ltb cents_limit (dvp_size u r) (h r l))
      then tt)

-- ---- the words

-- word i, where it is a record's
at_record : (c : List ℕ) (i : ℕ) → 0 < i → get_or c i 0 ≡ record_word c (record_of i) (field_of i)
at_record c i h = let e : i ≡ batch_words (record_of i) + field_of i = omega arith in ap (λ n. get_or c n 0) e

-- a word that is the same in its record
word_same : (c b : List ℕ) (i : ℕ) → 0 < i → record_word c (record_of i) (field_of i) ≡ record_word b (record_of i) (field_of i) → get_or c i 0 ≡ get_or b i 0
word_same c b i h e = at_record c i h ∙ e ∙ sym (at_record b i h)

module _ (b : List ℕ) (e : ToCents b) where
  abbrev marking : ℕ
  marking = batch_header (with_amounts cents b) + cents_bit

  length_to_lem : length (to_cents b) ≡ length b
  length_to_lem = headed_length marking (with_amounts cents b) ∙ amounts_length cents b ∙ sym (form_length b (form_to b e))

  words_to_lem : (i : ℕ) → 0 < i → i < length b → field_of i < 3 → get_or (to_cents b) i 0 ≡ get_or b i 0
  words_to_lem i p h l =
      let r : record_of i < record_count b = omega (arith, h, form_length b (form_to b e)) in
      word_same (to_cents b) b i p (headed_word marking (with_amounts cents b) (record_of i) (field_of i) ∙ word_is cents b (record_of i) r (field_of i) l)

  module _ (r : ℕ) (h : r < record_count b) where
    amount_to_lem : dvp_amount (to_cents b) r *ℤ pos cent ≡ dvp_amount b r
    amount_to_lem =
        ap (λ w. amount (w r 3) (w r 4) (w r 5) *ℤ pos cent) (words_of_headed marking (with_amounts cents b))
        ∙ ap (λ z. z *ℤ pos cent) (amount_is cents b r h (small_to b e r h))
        ∙ quot_mul cent (dvp_amount b r) (omega (arith, size-amount (record_word b r 3) (record_word b r 4) (record_word b r 5), whole_cents b e r h))

    record_to_lem : record_at (to_cents b) r ≡ record_with b r (cents (dvp_amount b r))
    record_to_lem =
        ap (λ (w : ℕ → ℕ → ℕ). w r 0 ∷ w r 1 ∷ w r 2 ∷ w r 3 ∷ w r 4 ∷ w r 5 ∷ []) (words_of_headed marking (with_amounts cents b)) ∙ record_is cents b r h

module _ (b : List ℕ) (e : FromCents b) where
  abbrev unmarking : ℕ
  unmarking = batch_header b - cents_bit

  length_from_lem : length (from_cents b) ≡ length b
  length_from_lem = amounts_length units (unmarked b) ∙ sym (form_length (unmarked b) (form_from b e)) ∙ headed_length unmarking b

  header_from_lem : batch_header (from_cents b) + cents_bit ≡ batch_header b
  header_from_lem =
      let filled : 0 < length b = omega (arith, form_length (unmarked b) (form_from b e), headed_length unmarking b) in
      omega (arith, amounts_header units (unmarked b), headed_header unmarking b filled, header_from b e)

  words_from_lem : (i : ℕ) → 0 < i → i < length b → field_of i < 3 → get_or (from_cents b) i 0 ≡ get_or b i 0
  words_from_lem i p h l =
      let r : record_of i < record_count (unmarked b) = omega (arith, h, form_length (unmarked b) (form_from b e), headed_length unmarking b) in
      word_same (from_cents b) b i p (word_is units (unmarked b) (record_of i) r (field_of i) l ∙ headed_word unmarking b (record_of i) (field_of i))

  module _ (r : ℕ) (h : r < record_count (unmarked b)) where
    amount_from_lem : dvp_amount (from_cents b) r ≡ units (dvp_amount b r)
    amount_from_lem = amount_is units (unmarked b) r h (small_from b e r h) ∙ ap (λ w. units (amount (w r 3) (w r 4) (w r 5))) (words_of_headed unmarking b)

    record_from_lem : record_at (from_cents b) r ≡ record_with b r (units (dvp_amount b r))
    record_from_lem =
        record_is units (unmarked b) r h
        ∙ ap (λ (w : ℕ → ℕ → ℕ). w r 0 ∷ w r 1 ∷ w r 2 ∷ amount_words (units (amount (w r 3) (w r 4) (w r 5)))) (words_of_headed unmarking b)

-- ---- one call behind the other

-- the words at the front of the memory
taken : (v : Verdict) (w m : List ℕ) (n : ℕ) → outcome v (length w) (length m) ≡ Ok n → take n (written (outcome v (length w) (length m)) w m) ≡ w
taken v w m n e =
    ap (λ (a : Answer). take n (written a w m)) e ∙ take_at w (drop n m) n (sym (outcome-report v (length w) (length m) n e).1)

module _ (b m x : List ℕ) (n : ℕ) where
  back_call_lem : to_cents_answer b (length m) ≡ Ok n → n ≤ length x
      → (from_cents_answer (take n (to_cents_after b m)) (length x) ≡ Ok n) × (take n (from_cents_after (take n (to_cents_after b m)) x) ≡ b)
  unfolding to_cents_answer to_cents_after from_cents_answer from_cents_after
  back_call_lem e h =
      let o = outcome-report (to_cents_check b) (length (to_cents b)) (length m) n e in
      let p : ToCents b = o.0 in
      let t = taken (to_cents_check b) (to_cents b) m n e in
      let q : length (from_cents (to_cents b)) ≡ n = ap length (back_lem b p) ∙ sym (length_to_lem b p) ∙ sym o.1 in
      let a = outcome-passed (from_cents_check (to_cents b)) (length (from_cents (to_cents b))) (length x) (back_passes_lem b p) (omega (arith, q, h)) ∙ ap Ok q in (
        ap (λ w. from_cents_answer w (length x)) t ∙ a,
        ap (λ w. take n (from_cents_after w x)) t ∙ taken (from_cents_check (to_cents b)) (from_cents (to_cents b)) x n a ∙ back_lem b p,
      )

  again_call_lem : from_cents_answer b (length m) ≡ Ok n → n ≤ length x
      → (to_cents_answer (take n (from_cents_after b m)) (length x) ≡ Ok n) × (take n (to_cents_after (take n (from_cents_after b m)) x) ≡ b)
  unfolding to_cents_answer to_cents_after from_cents_answer from_cents_after
  again_call_lem e h =
      let o = outcome-report (from_cents_check b) (length (from_cents b)) (length m) n e in
      let p : FromCents b = o.0 in
      let t = taken (from_cents_check b) (from_cents b) m n e in
      let q : length (to_cents (from_cents b)) ≡ n = ap length (again_lem b p) ∙ sym (length_from_lem b p) ∙ sym o.1 in
      let a = outcome-passed (to_cents_check (from_cents b)) (length (to_cents (from_cents b))) (length x) (again_passes_lem b p) (omega (arith, q, h)) ∙ ap Ok q in (
        ap (λ w. to_cents_answer w (length x)) t ∙ a,
        ap (λ w. take n (to_cents_after w x)) t ∙ taken (to_cents_check (from_cents b)) (to_cents (from_cents b)) x n a ∙ again_lem b p,
      )

-- ---- answers and memory

refused_to_lem : (b m : List ℕ) (k : Check) → to_cents_answer b (length m) ≡ Err k → to_cents_after b m ≡ m
unfolding to_cents_after
refused_to_lem b m k e = leaves_all (to_cents_answer b (length m)) k (to_cents b) m e

refused_from_lem : (b m : List ℕ) (k : Check) → from_cents_answer b (length m) ≡ Err k → from_cents_after b m ≡ m
unfolding from_cents_after
refused_from_lem b m k e = leaves_all (from_cents_answer b (length m)) k (from_cents b) m e

writes_to_lem : (b m : List ℕ) → ToCents b → length b ≤ length m → to_cents_after b m ≡ to_cents b ++ drop (length b) m
unfolding to_cents_after to_cents_answer
writes_to_lem b m e h =
    let l = length_to_lem b e in
    leaves_words (to_cents_check b) (length (to_cents b)) (to_cents b) m e (omega (arith, l, h)) ∙ ap (λ n. to_cents b ++ drop n m) l

writes_from_lem : (b m : List ℕ) → FromCents b → length b ≤ length m → from_cents_after b m ≡ from_cents b ++ drop (length b) m
unfolding from_cents_after from_cents_answer
writes_from_lem b m e h =
    let l = length_from_lem b e in
    leaves_words (from_cents_check b) (length (from_cents b)) (from_cents b) m e (omega (arith, l, h)) ∙ ap (λ n. from_cents b ++ drop n m) l

pub conversions : Conversions
conversions =
    record {
      set_bit = set_bit_lem;
      missing_bit = missing_bit_lem;
      rows_refuse = λ d b. rows_refuse_lem b d;
      reports_refuse = λ d b x room. reports_refuse_lem b d x room;
      passes_to = passes_to_lem;
      passes_from = passes_from_lem;
      back_passes = back_passes_lem;
      back = back_lem;
      again_passes = again_passes_lem;
      again = again_lem;
      back_call = back_call_lem;
      again_call = again_call_lem;
      header_to = header_to_lem;
      header_from = header_from_lem;
      length_to = length_to_lem;
      length_from = length_from_lem;
      words_to = λ b i e. words_to_lem b e i;
      words_from = λ b i e. words_from_lem b e i;
      amount_to = λ b r e h. amount_to_lem b e r h;
      amount_from = λ b r e h. amount_from_lem b e r h;
      record_to = λ b r e h. record_to_lem b e r h;
      record_from = λ b r e h. record_from_lem b e r h;
      numbers_to = to_cents_numbers;
      numbers_from = from_cents_numbers;
      refused_to = refused_to_lem;
      refused_from = refused_from_lem;
      writes_to = writes_to_lem;
      writes_from = writes_from_lem;
    }
