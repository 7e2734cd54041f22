-- U11: rows 33 and 34, and the rows that converting a batch to cents and from cents tries. b is the batch, r a record.
use Rattle.std.specs.Prelude.{Bool, not, List, [], ◌∷◌, ℕ, ◌%◌, ltb}
use Rattle.model.specs.declared.Check.TheVariants.{BatchHeader, BatchWords}
use Rattle.model.specs.declared.BatchHeaderFault.TheVariants.{BadBatchHeader}
use Rattle.model.specs.declared.BatchWordsFault.TheVariants.{NotWholeCents, CentsTooLarge}
use Rattle.model.specs.Outcomes.{Verdict}
use Rattle.model.specs.Limits.{cents_limit}
use Rattle.model.specs.Rows.{tried, plain_row, record_row}
use Rattle.model.specs.Batch.{record_count, dvp_size}
use Rattle.model.specs.BatchChecks.{batch_form}
use Rattle.model.specs.Cents.{is_in_cents, unmarked, cent}

-- "an amount to be turned into cents that isn't a multiple of 100"
unfoldable pub row33 : List ℕ → ℕ → Bool
row33 b r = ltb 0 (dvp_size b r % cent)

-- "a cent amount of magnitude above 50,000,000,000,000"
unfoldable pub row34 : List ℕ → ℕ → Bool
row34 b r = ltb cents_limit (dvp_size b r)

-- "only rows 20, 21, 22, 27 and 28", those of the report that need no day file, and 33 "after them"; with the bit set P is too large, which is 20
unfoldable pub to_cents_check : List ℕ → Verdict
to_cents_check b = tried (batch_form b ∷ record_row (BatchWords NotWholeCents) (row33 b) (record_count b) ∷ [])

-- "20 also covers the bit .. missing on the way back"; the others are of the batch without it; then 34
unfoldable pub from_cents_check : List ℕ → Verdict
from_cents_check b =
    tried
    (plain_row (BatchHeader BadBatchHeader) (not (is_in_cents b))
    ∷ batch_form (unmarked b)
    ∷ record_row (BatchWords CentsTooLarge) (row34 (unmarked b)) (record_count (unmarked b))
    ∷ [])
