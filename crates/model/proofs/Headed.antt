-- A batch with another header in place of its own has the same records, and another count of them.
use Rattle.std.specs.Prelude.{◌≡◌, false, not, ◌&&◌, ◌||◌, List, [], ◌∷◌, ℕ, ◌+◌, ◌<◌, ltb, eqb, length, Ok}
use Rattle.std.proofs.Math.Path.{refl, sym, ap, fun_ext}
use Rattle.std.proofs.Common.{◌∙◌, arith, get_or-set_other}
use Rattle.model.specs.declared.Check.TheVariants.{BatchLength, BatchWords}
use Rattle.model.specs.declared.BatchLengthFault.TheVariants.{BadBatchLength}
use Rattle.model.specs.declared.WordRow.{WordRow}
use Rattle.model.specs.declared.WordRow.TheVariants.{Row22, Row27, Row28}
use Rattle.model.specs.Limits.{dvp_amount_limit}
use Rattle.model.specs.Words.{kind, payload, bits, magnitude, negative}
use Rattle.model.specs.Rows.{tried, record_row}
use Rattle.model.specs.Batch.{batch_header, record_count, headed, record_word, dvp_size, batch_words}
use Rattle.model.specs.BatchChecks.{record_kind, record_limit, dvp_out_of_range, dvp_minus_zero, wrong_kind, out_of_range, minus_zero, at_word, row22, row27, row28, row_of, fault_of, words_check, word_check, row21, batch_form}
use Rattle.model.proofs.Verdicts.{tried-passed}
use Rattle.model.proofs.Accepted.{plain_clear}
use Rattle.model.proofs.Limits.{row21-length}

-- its own
pub headed_own : (b : List ℕ) → headed (batch_header b) b ≡ b
headed_own [] = refl
headed_own (x ∷ l) = refl

module _ (h : ℕ) (b : List ℕ) where
  pub headed_header : 0 < length b → batch_header (headed h b) ≡ h
  headed_header = by b
    where
      by : (c : List ℕ) → 0 < length c → batch_header (headed h c) ≡ h
      by [] l = absurd (omega arith)
      by (x ∷ c) l = refl

  pub headed_length : length (headed h b) ≡ length b
  headed_length = by b
    where
      by : (c : List ℕ) → length (headed h c) ≡ length c
      by [] = refl
      by (x ∷ c) = refl

  pub headed_word : (r i : ℕ) → record_word (headed h b) r i ≡ record_word b r i
  headed_word r i = get_or-set_other b 0 (batch_words r + i) h 0 (λ e. omega arith)

  pub words_of_headed : record_word (headed h b) ≡ record_word b
  words_of_headed = fun_ext (λ r. fun_ext (λ i. headed_word r i))

  pub headed_size : (r : ℕ) → dvp_size (headed h b) r ≡ dvp_size b r
  headed_size r = λ i. magnitude (words_of_headed i r 3) (words_of_headed i r 4) (words_of_headed i r 5)

  rows_same : (w : WordRow) → row_of w (headed h b) ≡ row_of w b
  unfolding row22 row27 row28 wrong_kind out_of_range minus_zero dvp_out_of_range dvp_minus_zero
  rows_same Row22 = λ i. at_word (λ r j. not (eqb (kind (words_of_headed i r j)) (record_kind j)))
  rows_same Row27 =
      λ i.
      at_word
      (λ r j.
      ltb (record_limit j) (payload (words_of_headed i r j))
      || (eqb j 3 && (ltb 0 (bits (payload (words_of_headed i r 3)) 5 23) || ltb dvp_amount_limit (magnitude (words_of_headed i r 3) (words_of_headed i r 4) (words_of_headed i r 5)))))
  rows_same Row28 = λ i. at_word (λ r j. eqb j 3 && (eqb (negative (words_of_headed i r 3)) 1 && eqb (magnitude (words_of_headed i r 3) (words_of_headed i r 4) (words_of_headed i r 5)) 0))

  -- rows 22, 27 and 28 of so many records
  headed_check : (n : ℕ) → words_check (headed h b) n ≡ words_check b n
  headed_check n =
      λ i. tried (row Row22 i ∷ row Row27 i ∷ row Row28 i ∷ [])
    where
      row : (w : WordRow) → record_row (BatchWords (fault_of w)) (row_of w (headed h b)) (batch_words n) ≡ record_row (BatchWords (fault_of w)) (row_of w b) (batch_words n)
      row w = λ i. record_row (BatchWords (fault_of w)) (rows_same w i) (batch_words n)

  -- one that has the length of its records: so many
  module _ (e : row21 (headed h b) ≡ false) where
    filled : 0 < length b
    filled = omega (arith, row21-length (headed h b) e, headed_length)

    pub headed_whole : length b ≡ batch_words (payload h)
    headed_whole = sym headed_length ∙ row21-length (headed h b) e ∙ ap (λ n. batch_words (payload n)) (headed_header filled)

    pub headed_words : words_check b (payload h) ≡ word_check (headed h b)
    unfolding word_check
    headed_words = sym (headed_check (payload h)) ∙ ap (λ n. words_check (headed h b) (payload n)) (sym (headed_header filled))

  -- .. by its form
  form_clear : batch_form (headed h b) ≡ Ok tt → row21 (headed h b) ≡ false
  unfolding batch_form
  form_clear e = plain_clear (BatchLength BadBatchLength) _ (tried-passed _ e).1.0

  pub headed_form : batch_form (headed h b) ≡ Ok tt → (length b ≡ batch_words (payload h)) × (record_count (headed h b) ≡ payload h)
  headed_form e = (headed_whole (form_clear e), ap payload (headed_header (filled (form_clear e))))
