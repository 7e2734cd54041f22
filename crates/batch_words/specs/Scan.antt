-- A test of the words of a batch scanned record by record, as a loop's needs ask it: `search (records, needs)`. x is what the scan of record r found.
use Rattle.std.specs.Prelude.{◌≡◌, Bool, ℕ, ◌+◌, ◌<◌, ◌≤◌, Option, Some, None}
use Rattle.std.proofs.Common.{sym, ap, ◌∙◌, arith}
use Rattle.numbers.specs.Scan.{first_bad, first_at, first_block, first_in_block, scan_all}
use Rattle.model.specs.Batch.{record_words, batch_words}

module _ (t : ℕ → Bool) where
  pub record_clear : (r : ℕ) (x : Option ℕ) → first_bad t (batch_words r) ≡ None → x ≡ first_bad (λ j. t (batch_words r + j)) record_words → x ≡ None → first_bad t (batch_words (r + 1)) ≡ None
  record_clear r x h a b =
      let e : batch_words (r + 1) ≡ batch_words r + record_words = omega arith in
      ap (first_bad t) e ∙ first_block t (batch_words r) record_words h (sym a ∙ b)

  pub record_hit : (r n j : ℕ) (x : Option ℕ) → first_bad t (batch_words r) ≡ None → x ≡ first_bad (λ i. t (batch_words r + i)) record_words → x ≡ Some j → r < n → Some (batch_words r + j) ≡ first_bad t (batch_words n)
  record_hit r n j x h a b l = sym (first_in_block t (batch_words r) record_words j (batch_words n) h (sym a ∙ b) (omega arith))

  pub all_records : (r n : ℕ) → first_bad t (batch_words r) ≡ None → r ≤ n → n ≤ r → None ≡ first_bad t (batch_words n)
  all_records r n h p q = scan_all t (batch_words r) (batch_words n) h (omega arith) (omega arith)

-- what is found in a record is one of its words
pub in_record : (t : ℕ → Bool) (j : ℕ) (x : Option ℕ) → x ≡ first_bad t record_words → x ≡ Some j → j < record_words
in_record t j x a b = (first_at t record_words j (sym a ∙ b)).0

pub ruleset records = (record_clear, record_hit, all_records)
