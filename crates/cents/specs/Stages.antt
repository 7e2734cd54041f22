-- The rows of both ways, a stage at a time, and what they leave to the answers. b is the batch.
use Rattle.std.specs.Prelude.{◌≡◌, true, false, not, List, ℕ, ◌-◌, ◌≤◌, pos, length, Ok, Err}
use Rattle.std.proofs.Math.Path.{refl, sym, ap}
use Rattle.std.proofs.Common.{◌∙◌, arith}
use Rattle.numbers.specs.Abs.{nat_abs-*}
use Rattle.model.specs.declared.Check.{Check}
use Rattle.model.specs.declared.Check.TheVariants.{BatchHeader, BatchWords}
use Rattle.model.specs.declared.BatchHeaderFault.TheVariants.{BadBatchHeader}
use Rattle.model.specs.declared.BatchWordsFault.TheVariants.{CentsTooLarge}
use Rattle.model.specs.Outcomes.{Answer, Verdict}
use Rattle.model.specs.Limits.{most_records}
use Rattle.model.specs.Words.{payload}
use Rattle.model.specs.Rows.{record_row}
use Rattle.model.specs.Batch.{batch_header, record_count, headed, record_word, batch_words, dvp_amount}
use Rattle.model.specs.BatchChecks.{batch_form}
use Rattle.model.specs.Cents.{is_in_cents, cents_bit, unmarked, cent}
use Rattle.model.specs.CentsChecks.{row34, to_cents_check, from_cents_check}
use Rattle.model.specs.Calls.{answer_of, room_answer, outcome, written}
use Rattle.model.proofs.Verdicts.{plain_failed, plain_passed, stage_failed, stage_passed, last_stage}
use Rattle.model.proofs.Sizes.{size-amount}
use Rattle.model.proofs.Limits.{form_length, form_count}
use Rattle.model.proofs.Headed.{headed_form}
use Rattle.model.proofs.Headed.{headed_size}
use Rattle.model.proofs.Cents.{headed_row34, form_to, form_from, within}
use Rattle.cents.specs.Converted.{Small}
use Rattle.cents.specs.declared.Edition.TheVariants.{Units}

module _ (b : List ℕ) where
  pub bit_missing : is_in_cents b ≡ false → Err (BatchHeader BadBatchHeader 0) ≡ from_cents_check b
  unfolding from_cents_check
  bit_missing e = plain_failed (BatchHeader BadBatchHeader) (not (is_in_cents b)) (not (is_in_cents b)) _ _ refl (ap not e) refl

  module _ (bit : is_in_cents b ≡ true) where
    pub form_refused : (k : Check) → batch_form (unmarked b) ≡ Err k → Err k ≡ from_cents_check b
    unfolding from_cents_check
    form_refused k e =
        plain_passed (BatchHeader BadBatchHeader) (not (is_in_cents b)) (not (is_in_cents b)) _ _ refl (ap not bit) (stage_failed _ _ _ k refl e)

    -- h is its header without the bit
    pub limits_tried : (h : ℕ) → h ≡ batch_header b - cents_bit → batch_form (headed h b) ≡ Ok tt
        → record_row (BatchWords CentsTooLarge) (row34 b) (payload h) ≡ from_cents_check b
    unfolding from_cents_check
    limits_tried h q e =
        let v : batch_form (unmarked b) ≡ Ok tt = ap (λ (n : ℕ). batch_form (headed n b)) (sym q) ∙ e in
        plain_passed (BatchHeader BadBatchHeader) (not (is_in_cents b)) (not (is_in_cents b)) _ _ refl (ap not bit)
        (stage_passed _ _ _ _ refl v (last_stage _ _ (rows h q e)))
      where
        rows : (h : ℕ) → h ≡ batch_header b - cents_bit → batch_form (headed h b) ≡ Ok tt
            → record_row (BatchWords CentsTooLarge) (row34 b) (payload h) ≡ record_row (BatchWords CentsTooLarge) (row34 (unmarked b)) (record_count (unmarked b))
        rows h q e =
            (λ i. record_row (BatchWords CentsTooLarge) (sym (headed_row34 h b) i) (sym ((headed_form h b e).1) i))
            ∙ ap (λ (n : ℕ). record_row (BatchWords CentsTooLarge) (row34 (headed n b)) (record_count (headed n b))) q

-- ---- what the rows say of the words written

-- the way to cents
module _ (b : List ℕ) (e : to_cents_check b ≡ Ok tt) where
  pub whole_to : length b ≡ batch_words (record_count b)
  whole_to = form_length b (form_to b e)

  pub header_to : payload (batch_header b) ≤ most_records
  header_to = form_count b (form_to b e)

-- the way back
module _ (b : List ℕ) (e : from_cents_check b ≡ Ok tt) where
  form : (length b ≡ batch_words (payload (batch_header b - cents_bit))) × (record_count (unmarked b) ≡ payload (batch_header b - cents_bit))
  form = headed_form (batch_header b - cents_bit) b (form_from b e)

  pub whole_from : length b ≡ batch_words (payload (batch_header b - cents_bit))
  whole_from = form.0

  pub small_from : Small Units b (payload (batch_header b - cents_bit))
  small_from =
      record {
        small =
            λ r h.
            omega (
              arith,
              nat_abs-* (dvp_amount b r) (pos cent),
              size-amount (record_word b r 3) (record_word b r 4) (record_word b r 5),
              headed_size (batch_header b - cents_bit) b r,
              within b e r (omega (arith, form.1, h)),
            );
      }

-- ---- answers

module _ (v : Verdict) (n room : ℕ) where
  pub refused : (k : Check) → v ≡ Err k → Err k ≡ outcome v n room
  refused k e = ap (λ (u : Verdict). answer_of u (room_answer n room)) (sym e)

  passed : v ≡ Ok tt → room_answer n room ≡ outcome v n room
  passed e = ap (λ (u : Verdict). answer_of u (room_answer n room)) (sym e)

-- the words w as the code has them, u: what is answered and what is left
module _ (v : Verdict) (w u m : List ℕ) (e : v ≡ Ok tt) (q : u ≡ w) (r : Answer) (a : r ≡ room_answer (length u) (length m)) where
  pub answered : r ≡ outcome v (length w) (length m)
  answered = a ∙ ap (λ (l : List ℕ). room_answer (length l) (length m)) q ∙ passed v (length w) (length m) e

  pub leaves : written r u m ≡ written (outcome v (length w) (length m)) w m
  leaves = λ i. written (answered i) (q i) m
