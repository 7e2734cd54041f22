-- Rows 22, 27 and 28 name a word of a record, the first at which their row holds. For every batch.
use Rattle.std.specs.Prelude.{◌≡◌, refl, true, false, List, ℕ, zero, suc, ◌<◌, Option, Some, None, Ok, Err}
use Rattle.std.proofs.Common.{sym, ◌∙◌, subst, true≢false, arith}
use Rattle.numbers.specs.Scan.{first_bad, first_at, first-before}
use Rattle.model.specs.declared.Check.TheVariants.{BatchWords}
use Rattle.model.specs.declared.BatchWordsFault.{BatchWordsFault}
use Rattle.model.specs.declared.WordRow.{WordRow}
use Rattle.model.specs.declared.WordRow.TheVariants.{Row22, Row27, Row28}
use Rattle.model.specs.Outcomes.{Verdict}
use Rattle.model.specs.Rows.{found_row}
use Rattle.model.specs.Batch.{record_count, batch_words}
use Rattle.model.specs.BatchChecks.{at_word, row22, row27, row28, row_of, fault_of, word_row, word_check}
use Rattle.model.proofs.Verdicts.{◌then◌, failed_not, tried-each}

-- word i is a record's, so not the header, and the first at which the row holds
pub record FirstWord (w : WordRow) (b : List ℕ) (i : ℕ) : Type 0 where
  pub inside : (0 < i) × (i < batch_words (record_count b))
  pub holds : row_of w b i ≡ true
  pub before : (k : ℕ) → k < i → row_of w b k ≡ false

-- what a refusal of these rows says, f its reason: which of them it is, and its word
pub record NamedWord (f : BatchWordsFault) (b : List ℕ) (i : ℕ) : Type 0 where
  pub row : WordRow
  pub reason : f ≡ fault_of row
  pub word : FirstWord row b i

header : (w : WordRow) (b : List ℕ) → row_of w b 0 ≡ false
unfolding at_word row22 row27 row28
header Row22 b = refl
header Row27 b = refl
header Row28 b = refl

module _ (b : List ℕ) where
  record Named (v : Verdict) : Type 0 where
    named : (f : BatchWordsFault) (i : ℕ) → v ≡ Err (BatchWords f i) → NamedWord f b i

  passed : Named (Ok tt)
  passed = record { named = λ f i e. failed_not (BatchWords f i) (sym e) }

  word : (w : WordRow) → Named (word_row w b (record_count b))
  word w = by (first_bad (row_of w b) (batch_words (record_count b))) refl
    where
      above : (i : ℕ) → row_of w b i ≡ true → 0 < i
      above zero e = absurd (true≢false (sym e ∙ header w b))
      above (suc i) e = omega arith

      first : (i : ℕ) → first_bad (row_of w b) (batch_words (record_count b)) ≡ Some i → FirstWord w b i
      first i e =
          let at = first_at (row_of w b) (batch_words (record_count b)) i e in
          record { inside = (above i at.1, at.0); holds = at.1; before = first-before (row_of w b) (batch_words (record_count b)) i e }

      by : (x : Option ℕ) → first_bad (row_of w b) (batch_words (record_count b)) ≡ x → Named (found_row (BatchWords (fault_of w)) x)
      by (Some j) e =
          record {
            named = λ f i q.
                let p : f ≡ fault_of w = cc in
                let z : j ≡ i = cc in
                record { row = w; reason = p; word = subst (FirstWord w b) z (first j e) };
          }
      by None e = passed

  pub named_word : (f : BatchWordsFault) (i : ℕ) → word_check b ≡ Err (BatchWords f i) → NamedWord f b i
  unfolding word_check
  named_word = (tried-each Named passed _ (word Row22 then word Row27 then word Row28 then tt)).named
