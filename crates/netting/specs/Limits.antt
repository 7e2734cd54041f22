-- What a batch must have passed to be netted: its length, and the limits of its quantities and amounts (rows 20 to 27). One record may be more than a batch has: the one added to it (U7).
use Rattle.std.specs.Prelude.{◌≡◌, List, ℕ, ◌+◌, ◌≤◌, ◌<◌, nat_abs, length}
use Rattle.std.proofs.Common.{arith}
use Rattle.model.specs.Limits.{quantity_limit, dvp_amount_limit, most_records}
use Rattle.model.proofs.Accepted.{RecordRows, BatchChecks}
use Rattle.model.proofs.Limits.{batch_length, few_records, long_limit, short_limit, dvp_limit_lem}
use Rattle.model.specs.Batch.{record_count, long, short, dvp_amount, batch_words}

pub record Limited (b : List ℕ) : Type 0 where
  pub whole : length b ≡ batch_words (record_count b)
  pub few : record_count b ≤ most_records + 1
  pub longs : (r : ℕ) → r < record_count b → long b r ≤ quantity_limit
  pub shorts : (r : ℕ) → r < record_count b → short b r ≤ quantity_limit
  pub dvps : (r : ℕ) → r < record_count b → nat_abs (dvp_amount b r) ≤ dvp_amount_limit

-- what the rows of its records give
pub limited_records : (d b : List ℕ) → RecordRows d b → length b ≡ batch_words (record_count b) → record_count b ≤ most_records + 1 → Limited b
limited_records d b r e h =
    record {
      whole = e;
      few = h;
      longs = long_limit d b r;
      shorts = short_limit d b r;
      dvps = dvp_limit_lem d b r;
    }

-- .. and the checks of the batch
pub limited : (d b : List ℕ) → BatchChecks d b → Limited b
limited d b r = limited_records d b r.records (batch_length d b r) (omega (arith, few_records d b r))
