-- U7: rows 31 and 32, and the rows that rewriting a batch and adding a record w to it try. d is the day file, b the batch, r a record.
use Rattle.std.specs.Prelude.{◌≡◌, Bool, not, ◌||◌, List, [], ◌∷◌, ℕ, ltb, eqb, nat_abs, length, Ok}
use Rattle.model.specs.declared.Check.TheVariants.{BatchHeader, BatchLength, Netting}
use Rattle.model.specs.declared.BatchHeaderFault.TheVariants.{BadBatchHeader}
use Rattle.model.specs.declared.BatchLengthFault.TheVariants.{BadBatchLength}
use Rattle.model.specs.declared.NettingFault.TheVariants.{DvpTooLarge, NoSpace}
use Rattle.model.specs.Outcomes.{Verdict}
use Rattle.model.specs.Limits.{dvp_amount_limit, most_records}
use Rattle.model.specs.Rows.{tried, plain_row, record_row}
use Rattle.model.specs.DayChecks.{day_check}
use Rattle.model.specs.Batch.{record_count, record_words, key}
use Rattle.model.specs.BatchChecks.{row20, row21, word_check, position_check, batch_check}
use Rattle.model.specs.Netting.{net, dvp, netting_check}
use Rattle.model.specs.Rewriting.{held_records, added}

-- "a summed DVP above the record limit", of the position of record r
unfoldable pub row31 : List ℕ → ℕ → Bool
row31 b r = ltb dvp_amount_limit (nat_abs (dvp b (key b r)))

-- "that rewriting would hold more than 256 records"
unfoldable pub row32 : List ℕ → Bool
row32 b = ltb most_records (length (held_records (net b) (dvp b)))

unfoldable pub dvp_check : List ℕ → Verdict
dvp_check b = record_row (Netting DvpTooLarge) (row31 b) (record_count b)

unfoldable pub space_check : List ℕ → Verdict
space_check b = plain_row (Netting NoSpace) (row32 b)

-- "both after 30": the stage of netting in these calls
unfoldable pub rewriting_check : List ℕ → List ℕ → Verdict
rewriting_check d b = tried (netting_check d b ∷ dvp_check b ∷ space_check b ∷ [])

-- of a batch to rewrite: those of the report, then 31; a batch that passes row 20 never meets row 32 (Rewritings of corollaries)
unfoldable pub rewrite_check : List ℕ → List ℕ → Verdict
rewrite_check d b = tried (day_check d ∷ batch_check d b ∷ rewriting_check d b ∷ [])

abbrev pub Rewritable : List ℕ → List ℕ → Type 0
Rewritable d b = rewrite_check d b ≡ Ok tt

-- "a record of other than six words is 21"
unfoldable pub added_row21 : List ℕ → List ℕ → Bool
added_row21 b w = row21 b || not (eqb (length w) record_words)

-- of a record to add: "row 20 looks only at the batch as given", the others look at both together, "checked like the others"
unfoldable pub add_check : List ℕ → List ℕ → List ℕ → Verdict
add_check d b w =
    tried
    (day_check d
    ∷ plain_row (BatchHeader BadBatchHeader) (row20 b)
    ∷ plain_row (BatchLength BadBatchLength) (added_row21 b w)
    ∷ word_check (added b w)
    ∷ position_check d (added b w)
    ∷ rewriting_check d (added b w)
    ∷ [])

abbrev pub Addable : List ℕ → List ℕ → List ℕ → Type 0
Addable d b w = add_check d b w ≡ Ok tt
