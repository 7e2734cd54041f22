-- Where no record is bad, rows 22, 27 and 28 hold nowhere.
use Rattle.std.specs.Prelude.{◌≡◌, List, ℕ, None, Ok}
use Rattle.numbers.specs.Scan.{first_bad, first-none, first_clear}
use Rattle.model.specs.declared.WordRow.{WordRow}
use Rattle.model.specs.declared.WordRow.TheVariants.{Row22, Row27, Row28}
use Rattle.model.specs.Batch.{batch_words}
use Rattle.model.specs.BatchChecks.{wrong_kind, out_of_range, minus_zero, row22, row27, row28, row_of, word_row, words_check}
use Rattle.model.proofs.BatchWords.{words_back}
use Rattle.model.proofs.Verdicts.{◌then◌, tried_pass}
use Rattle.record_words.specs.BadRecord.{bad_record, right_kind, in_range, no_minus-zero}

module _ (b : List ℕ) where
  pub records_clear : (w : WordRow) (n : ℕ) → first_bad (bad_record b) n ≡ None → first_bad (row_of w b) (batch_words n) ≡ None
  unfolding row22 row27 row28
  records_clear Row22 n h = first-none _ _ (words_back (wrong_kind b) n (λ r j p q. right_kind b r (first_clear _ n h r p) j q))
  records_clear Row27 n h = first-none _ _ (words_back (out_of_range b) n (λ r j p q. in_range b r (first_clear _ n h r p) j q))
  records_clear Row28 n h = first-none _ _ (words_back (minus_zero b) n (λ r j p q. no_minus-zero b r (first_clear _ n h r p) j q))

  module _ (n : ℕ) (h : first_bad (bad_record b) n ≡ None) where
    passes : (w : WordRow) → word_row w b n ≡ Ok tt
    passes w = rw (records_clear w n h)

    pub words_pass : words_check b n ≡ Ok tt
    words_pass = tried_pass _ (passes Row22 then passes Row27 then passes Row28 then tt)
