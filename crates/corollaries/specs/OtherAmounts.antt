-- A batch with other amounts (U11): its records one by one, that its form is right where theirs is, and amounts changed twice. b is a batch that passes the rows of its form.
use Rattle.std.specs.Prelude.{◌≡◌, false, not, ◌||◌, List, [], ◌∷◌, ℕ, zero, suc, ◌≤◌, ◌<◌, ◌^◌, ltb, eqb, ℤ, nat_abs, length, get_or, Ok}
use Rattle.std.proofs.Math.Path.{refl, sym, ap}
use Rattle.std.proofs.Common.{◌∙◌, arith, ne_eqb, eq-eqb, drop-cons}
use Rattle.numbers.specs.Chosen.{joined, Each, each-tabulate}
use Rattle.numbers.specs.Table.{tabulate, tabulate_ext, length-tabulate, get_or-tabulate}
use Rattle.numbers.specs.Tests.{or_left, or_right}
use Rattle.model.specs.declared.Check.TheVariants.{BatchHeader, BatchLength}
use Rattle.model.specs.declared.BatchHeaderFault.TheVariants.{BadBatchHeader}
use Rattle.model.specs.declared.BatchLengthFault.TheVariants.{BadBatchLength}
use Rattle.model.specs.Limits.{dvp_amount_limit, most_records}
use Rattle.model.specs.Words.{kind, payload, amount, amount_words}
use Rattle.model.specs.Batch.{batch_header, record_count, record_word, record_words, batch_words, dvp_amount, dvp_size}
use Rattle.model.specs.BatchChecks.{row20, row21, words_check, word_check, batch_form}
use Rattle.model.specs.Cents.{record_with, with_amounts}
use Rattle.model.specs.Locality.{record_at}
use Rattle.model.proofs.Accepted.{plain_clear, plain_back}
use Rattle.model.proofs.Cents.{converted_length}
use Rattle.model.proofs.Limits.{form_length}
use Rattle.model.proofs.Sizes.{size-amount}
use Rattle.model.proofs.Verdicts.{◌then◌, tried-passed, tried_pass}
use Rattle.model.proofs.WordsBack.{amount_back}
use Rattle.corollaries.specs.Batches.{body_is, records_back}
use Rattle.corollaries.specs.RightRecords.{Right, all_right, right_all, with_right, own_again}

module _ (f : ℤ → ℤ) (b : List ℕ) where
  abbrev others : List (List ℕ)
  others = tabulate (record_count b) (λ r. record_with b r (f (dvp_amount b r)))

  others_each : Each record_words others
  others_each = each-tabulate record_words (record_count b) (λ r. record_with b r (f (dvp_amount b r))) (λ r. refl)

  pub amounts_length : length (with_amounts f b) ≡ batch_words (record_count b)
  unfolding with_amounts
  amounts_length = converted_length f b (batch_header b) (record_count b)

  pub amounts_header : batch_header (with_amounts f b) ≡ batch_header b
  unfolding with_amounts
  amounts_header = refl

  module _ (r : ℕ) (h : r < record_count b) where
    pub record_is : record_at (with_amounts f b) r ≡ record_with b r (f (dvp_amount b r))
    unfolding with_amounts
    record_is =
        sym (get_or-tabulate (record_count b) (record_at (with_amounts f b)) r [] h)
        ∙ ap (λ (l : List (List ℕ)). get_or l r []) (records_back (batch_header b) others others_each (sym (length-tabulate (record_count b) (λ q. record_with b q (f (dvp_amount b q))))))
        ∙ get_or-tabulate (record_count b) (λ q. record_with b q (f (dvp_amount b q))) r [] h

    -- its words by themselves
    pub word_is : (j : ℕ) → j < 3 → record_word (with_amounts f b) r j ≡ record_word b r j
    word_is zero l = ap (λ (w : List ℕ). get_or w 0 0) record_is
    word_is (suc zero) l = ap (λ (w : List ℕ). get_or w 1 0) record_is
    word_is (suc (suc zero)) l = ap (λ (w : List ℕ). get_or w 2 0) record_is
    word_is (suc (suc (suc j))) l = absurd (omega arith)

    pub amount_is : nat_abs (f (dvp_amount b r)) < 2 ^ 63 → dvp_amount (with_amounts f b) r ≡ f (dvp_amount b r)
    amount_is l = ap (λ (w : List ℕ). amount (get_or w 3 0) (get_or w 4 0) (get_or w 5 0)) record_is ∙ amount_back (f (dvp_amount b r)) l

    pub size_is : nat_abs (f (dvp_amount b r)) < 2 ^ 63 → dvp_size (with_amounts f b) r ≡ nat_abs (f (dvp_amount b r))
    size_is l =
        let c = with_amounts f b in
        sym (size-amount (record_word c r 3) (record_word c r 4) (record_word c r 5)) ∙ ap nat_abs (amount_is l)

-- amounts changed twice
pub amounts_twice : (f g : ℤ → ℤ) (b : List ℕ) → ((r : ℕ) → r < record_count b → nat_abs (f (dvp_amount b r)) < 2 ^ 63) → with_amounts g (with_amounts f b) ≡ with_amounts (λ z. g (f z)) b
unfolding with_amounts
amounts_twice f g b small =
    ap (λ (l : List (List ℕ)). batch_header b ∷ joined l)
    (tabulate_ext (record_count b) (λ r. record_with (with_amounts f b) r (g (dvp_amount (with_amounts f b) r))) (λ r. record_with b r (g (f (dvp_amount b r))))
    (λ r h.
    let w = word_is f b r h in
    let z = amount_is f b r h (small r h) in
    λ i. w 0 (omega arith) i ∷ w 1 (omega arith) i ∷ w 2 (omega arith) i ∷ amount_words (g (z i))))

module _ (b : List ℕ) (e : batch_form b ≡ Ok tt) where
  clear20 : row20 b ≡ false
  unfolding batch_form
  clear20 = plain_clear (BatchHeader BadBatchHeader) _ (tried-passed _ e).0

  pub right : (r : ℕ) → r < record_count b → Right (record_at b r)
  unfolding batch_form word_check
  right = all_right b (record_count b) (tried-passed _ e).1.1.0

  -- the same amounts
  pub amounts_same : (f : ℤ → ℤ) → ((r : ℕ) → r < record_count b → f (dvp_amount b r) ≡ dvp_amount b r) → with_amounts f b ≡ b
  unfolding with_amounts
  amounts_same f same =
      let l = form_length b e in
      ap (λ (w : List (List ℕ)). batch_header b ∷ joined w)
      (tabulate_ext (record_count b) (λ r. record_with b r (f (dvp_amount b r))) (record_at b) (λ r h. ap (record_with b r) (same r h) ∙ own_again b r (right r h)))
      ∙ sym (drop-cons b 0 0 (omega arith) ∙ ap (λ (w : List ℕ). batch_header b ∷ w) (body_is b l))

  -- amounts within the limit of row 27
  module _ (f : ℤ → ℤ) (limited : (r : ℕ) → r < record_count b → nat_abs (f (dvp_amount b r)) ≤ dvp_amount_limit) where
    still20 : row20 (with_amounts f b) ≡ false
    unfolding row20 with_amounts
    still20 =
        let counted = or_right (eqb (length b) 0 || not (eqb (kind (batch_header b)) 1)) (ltb most_records (record_count b)) clear20 in
        let headed = or_right (eqb (length b) 0) (not (eqb (kind (batch_header b)) 1)) (or_left (eqb (length b) 0 || not (eqb (kind (batch_header b)) 1)) (ltb most_records (record_count b)) clear20) in
        rw (ne_eqb (length (with_amounts f b)) 0 (λ z. omega (arith, amounts_length f b, z)), headed, counted)

    still21 : row21 (with_amounts f b) ≡ false
    unfolding row21
    still21 = ap not (eq-eqb (length (with_amounts f b)) (batch_words (record_count (with_amounts f b))) (amounts_length f b ∙ ap (λ (h : ℕ). batch_words (payload h)) (sym (amounts_header f b))))

    still_words : words_check (with_amounts f b) (record_count b) ≡ Ok tt
    still_words = right_all (with_amounts f b) (record_count b) (λ r h. rw (record_is f b r h) (with_right b r (right r h) (f (dvp_amount b r)) (limited r h)))

    pub still_form : batch_form (with_amounts f b) ≡ Ok tt
    unfolding batch_form word_check
    still_form =
        tried_pass _
        (plain_back (BatchHeader BadBatchHeader) _ still20
        then plain_back (BatchLength BadBatchLength) _ still21
        then ap (λ (h : ℕ). words_check (with_amounts f b) (payload h)) (amounts_header f b) ∙ still_words
        then tt)
