-- A batch with a record w as its last: what rows 20 and 21 ask of its parts, its header and its length.
use Rattle.std.specs.Prelude.{◌≡◌, false, List, ℕ, ◌+◌, ◌≤◌, ◌∷◌, [], length, Ok}
use Rattle.std.proofs.Common.{arith, length-append, eqb-true}
use Rattle.std.proofs.lemmas.Bool.{not-false}
use Rattle.std.proofs.Math.Bool.{not}
use Rattle.std.proofs.Math.Dec.{eqb}
use Rattle.numbers.specs.Tests.{or_left, or_right}
use Rattle.model.specs.declared.Check.TheVariants.{BatchHeader, BatchLength}
use Rattle.model.specs.declared.BatchHeaderFault.TheVariants.{BadBatchHeader}
use Rattle.model.specs.declared.BatchLengthFault.TheVariants.{BadBatchLength}
use Rattle.model.specs.Limits.{most_records}
use Rattle.model.specs.Rows.{plain_row}
use Rattle.model.specs.Batch.{record_count, record_words, batch_words}
use Rattle.model.specs.BatchChecks.{row20, row21}
use Rattle.model.specs.Rewriting.{added}
use Rattle.model.specs.RewritingChecks.{added_row21}
use Rattle.model.proofs.Accepted.{plain_clear}
use Rattle.model.proofs.Limits.{row20_count, row21-length}
use Rattle.model.proofs.WordsBack.{payload-word}

-- rows 20 and 21 pass: the batch as given is whole, and the record has six words
pub record Parts (b w : List ℕ) : Type 0 where
  pub at20 : row20 b ≡ false
  pub at21 : row21 b ≡ false
  pub six : length w ≡ record_words

module _ (b w : List ℕ) where
  pub parts_of : plain_row (BatchHeader BadBatchHeader) (row20 b) ≡ Ok tt → plain_row (BatchLength BadBatchLength) (added_row21 b w) ≡ Ok tt → Parts b w
  unfolding added_row21
  parts_of p q =
      let y = plain_clear (BatchLength BadBatchLength) (added_row21 b w) q in
      record {
        at20 = plain_clear (BatchHeader BadBatchHeader) (row20 b) p;
        at21 = or_left (row21 b) (not (eqb (length w) record_words)) y;
        six = eqb-true (length w) record_words (not-false (eqb (length w) record_words) (or_right (row21 b) (not (eqb (length w) record_words)) y));
      }

  module _ (h : Parts b w) where
    pub added_count : record_count (added b w) ≡ record_count b + 1
    unfolding added
    added_count = payload-word 1 (record_count b + 1) (omega (arith, row20_count b h.at20))

    pub added_few : record_count (added b w) ≤ most_records + 1
    added_few = omega (arith, added_count, row20_count b h.at20)

    pub added_length : length (added b w) ≡ length b + record_words
    unfolding added
    added_length = front b h
      where
        front : (c : List ℕ) → Parts c w → length (added c w) ≡ length c + record_words
        front [] k = absurd (omega (arith, row21-length [] k.at21))
        front (x ∷ l) k = omega (arith, length-append l w, k.six)

    pub added_whole : length (added b w) ≡ batch_words (record_count (added b w))
    added_whole = omega (arith, added_length, added_count, row21-length b h.at21)
