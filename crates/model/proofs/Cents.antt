-- The words of a batch whose amounts are converted, as the code writes them: a header, and each record with its own amount converted; and what it says that the rows of a conversion pass.
use Rattle.std.specs.Prelude.{◌≡◌, true, not, List, ◌∷◌, ℕ, ◌+◌, ◌%◌, ◌≤◌, ◌<◌, ltb, ℤ, length, Ok}
use Rattle.std.proofs.Math.Path.{refl}
use Rattle.std.proofs.Common.{arith, eqb-true, ltb-false}
use Rattle.std.proofs.lemmas.Bool.{not-false}
use Rattle.numbers.specs.Chosen.{joined, joined_length, each-tabulate}
use Rattle.numbers.specs.Table.{tabulate, length-tabulate}
use Rattle.model.specs.declared.Check.TheVariants.{BatchHeader, BatchWords}
use Rattle.model.specs.declared.BatchHeaderFault.TheVariants.{BadBatchHeader}
use Rattle.model.specs.declared.BatchWordsFault.TheVariants.{NotWholeCents, CentsTooLarge}
use Rattle.model.specs.Limits.{cents_limit}
use Rattle.model.specs.Words.{payload, bits, amount, amount_words}
use Rattle.model.specs.Batch.{batch_header, record_count, headed, record_word, record_words, batch_words, dvp_amount, dvp_size}
use Rattle.model.specs.BatchChecks.{batch_form}
use Rattle.model.specs.Cents.{is_in_cents, cents_bit, marked, unmarked, cent, record_with, with_amounts}
use Rattle.model.specs.CentsChecks.{row33, row34, to_cents_check, from_cents_check}
use Rattle.model.proofs.Accepted.{clear, plain_clear}
use Rattle.model.proofs.Verdicts.{tried-passed}
use Rattle.model.proofs.Headed.{headed_header, words_of_headed, headed_size}

module _ (f : ℤ → ℤ) (b : List ℕ) where
  -- behind the header h the records of b, n of them
  abbrev pub converted : ℕ → ℕ → List ℕ
  converted h n = h ∷ joined (tabulate n (λ r. record_with b r (f (dvp_amount b r))))

  pub converted_length : (h n : ℕ) → length (converted h n) ≡ batch_words n
  converted_length h n = omega (
    arith,
    joined_length (each-tabulate record_words n (λ r. record_with b r (f (dvp_amount b r))) (λ r. refl)),
    length-tabulate n (λ r. record_with b r (f (dvp_amount b r))),
  )

  -- the batch with such amounts and the bit of its header set
  pub converted_marked : marked (with_amounts f b) ≡ converted (batch_header b + cents_bit) (record_count b)
  unfolding with_amounts
  converted_marked = refl

  -- .. with another header in place of its own
  pub converted_headed : (h : ℕ) → 0 < length b → with_amounts f (headed h b) ≡ converted h (payload h)
  unfolding with_amounts
  converted_headed h l =
      let w : record_word (headed h b) ≡ record_word b = words_of_headed h b in
      λ i.
      headed_header h b l i
      ∷ joined
      (tabulate (payload (headed_header h b l i))
      (λ r. w i r 0 ∷ w i r 1 ∷ w i r 2 ∷ amount_words (f (amount (w i r 3) (w i r 4) (w i r 5)))))

-- the amounts are the same behind another header
pub headed_row34 : (h : ℕ) (b : List ℕ) → row34 (headed h b) ≡ row34 b
unfolding row34
headed_row34 h b = λ i r. ltb cents_limit (headed_size h b r i)

-- ---- what it says that the rows pass

-- to cents
module _ (b : List ℕ) (e : to_cents_check b ≡ Ok tt) where
  pub form_to : batch_form b ≡ Ok tt
  unfolding to_cents_check
  form_to = (tried-passed _ e).0

  pub whole_cents : (r : ℕ) → r < record_count b → dvp_size b r % cent ≡ 0
  unfolding to_cents_check row33
  whole_cents r h = let l = ltb-false 0 (dvp_size b r % cent) (clear (BatchWords NotWholeCents) (row33 b) (record_count b) (tried-passed _ e).1.0 r h) in omega arith

-- from cents
module _ (b : List ℕ) (e : from_cents_check b ≡ Ok tt) where
  bit_from : is_in_cents b ≡ true
  unfolding from_cents_check
  bit_from = not-false (is_in_cents b) (plain_clear (BatchHeader BadBatchHeader) (not (is_in_cents b)) (tried-passed _ e).0)

  pub header_from : cents_bit ≤ batch_header b
  header_from = omega (arith, eqb-true (bits (payload (batch_header b)) 28 1) 1 bit_from)

  pub form_from : batch_form (unmarked b) ≡ Ok tt
  unfolding from_cents_check
  form_from = (tried-passed _ e).1.0

  pub within : (r : ℕ) → r < record_count (unmarked b) → dvp_size (unmarked b) r ≤ cents_limit
  unfolding from_cents_check row34
  within r h = ltb-false cents_limit (dvp_size (unmarked b) r) (clear (BatchWords CentsTooLarge) (row34 (unmarked b)) (record_count (unmarked b)) (tried-passed _ e).1.1.0 r h)
