-- What is claimed of converting a batch to cents and from cents (U11), for every day file d, batch b, deposits x and memory m. Proved in Conversions. Words in quotes are the request's.
use Rattle.std.specs.Prelude.{◌≡◌, false, true, List, ◌++◌, ℕ, ◌+◌, ◌%◌, ◌≤◌, ◌<◌, pos, ◌*ℤ◌, length, take, drop, get_or, Ok, Err}
use Rattle.std.specs.Int.Signed.{quot_z}
use Rattle.model.specs.declared.Check.{Check}
use Rattle.model.specs.declared.Check.TheVariants.{BatchHeader}
use Rattle.model.specs.declared.BatchHeaderFault.TheVariants.{BadBatchHeader}
use Rattle.model.specs.Limits.{cents_limit}
use Rattle.model.specs.Batch.{batch_header, record_count, field_of, dvp_amount, dvp_size}
use Rattle.model.specs.BatchChecks.{batch_form, batch_check}
use Rattle.model.specs.DayChecks.{day_check}
use Rattle.model.specs.Calls.{answer}
use Rattle.model.specs.Locality.{record_at}
use Rattle.model.specs.Cents.{is_in_cents, cents_bit, unmarked, cent, record_with, to_cents, from_cents}
use Rattle.model.specs.CentsChecks.{to_cents_check, from_cents_check}
use Rattle.model.specs.CentsCalls.{to_cents_answer, to_cents_after, from_cents_answer, from_cents_after}
use Rattle.corollaries.specs.Numbers.{Numbers}

-- the call on b passes its rows
abbrev pub ToCents : List ℕ → Type 0
ToCents b = to_cents_check b ≡ Ok tt

abbrev pub FromCents : List ℕ → Type 0
FromCents b = from_cents_check b ≡ Ok tt

pub record Conversions : Type 0 where
  -- "20 also covers the bit set on the way to cents or missing on the way back"
  pub set_bit : (b : List ℕ) → is_in_cents b ≡ true → to_cents_check b ≡ Err (BatchHeader BadBatchHeader 0)
  pub missing_bit : (b : List ℕ) → is_in_cents b ≡ false → from_cents_check b ≡ Err (BatchHeader BadBatchHeader 0)
  -- "the report call itself still refuses the bit with 20": the rows of a batch do, in every call that tries them
  pub rows_refuse : (d b : List ℕ) → is_in_cents b ≡ true → batch_check d b ≡ Err (BatchHeader BadBatchHeader 0)
  pub reports_refuse : (d b x : List ℕ) (room : ℕ) → day_check d ≡ Ok tt → is_in_cents b ≡ true → answer d b x room ≡ Err (BatchHeader BadBatchHeader 0)
  -- "only rows 20, 21, 22, 27 and 28", then 33 or 34: passed is what passes them, with whole cents or within the limit
  pub passes_to : (b : List ℕ) → batch_form b ≡ Ok tt → ((r : ℕ) → r < record_count b → dvp_size b r % cent ≡ 0) → ToCents b
  pub passes_from : (b : List ℕ) → is_in_cents b ≡ true → batch_form (unmarked b) ≡ Ok tt
      → ((r : ℕ) → r < record_count (unmarked b) → dvp_size (unmarked b) r ≤ cents_limit) → FromCents b
  -- "a batch converted to cents and back is the original", and one in cents brought back and converted again
  pub back_passes : (b : List ℕ) → ToCents b → FromCents (to_cents b)
  pub back : (b : List ℕ) → ToCents b → from_cents (to_cents b) ≡ b
  pub again_passes : (b : List ℕ) → FromCents b → ToCents (from_cents b)
  pub again : (b : List ℕ) → FromCents b → to_cents (from_cents b) ≡ b
  -- .. by the calls: x is the memory of the second
  pub back_call : (b m x : List ℕ) (n : ℕ) → to_cents_answer b (length m) ≡ Ok n → n ≤ length x
      → (from_cents_answer (take n (to_cents_after b m)) (length x) ≡ Ok n) × (take n (from_cents_after (take n (to_cents_after b m)) x) ≡ b)
  pub again_call : (b m x : List ℕ) (n : ℕ) → from_cents_answer b (length m) ≡ Ok n → n ≤ length x
      → (to_cents_answer (take n (from_cents_after b m)) (length x) ≡ Ok n) × (take n (to_cents_after (take n (from_cents_after b m)) x) ≡ b)
  -- "other words stay but for the header bit": those that are no word of an amount; the amounts are the same money
  pub header_to : (b : List ℕ) → ToCents b → batch_header (to_cents b) ≡ batch_header b + cents_bit
  pub header_from : (b : List ℕ) → FromCents b → batch_header (from_cents b) + cents_bit ≡ batch_header b
  pub length_to : (b : List ℕ) → ToCents b → length (to_cents b) ≡ length b
  pub length_from : (b : List ℕ) → FromCents b → length (from_cents b) ≡ length b
  pub words_to : (b : List ℕ) (i : ℕ) → ToCents b → 0 < i → i < length b → field_of i < 3 → get_or (to_cents b) i 0 ≡ get_or b i 0
  pub words_from : (b : List ℕ) (i : ℕ) → FromCents b → 0 < i → i < length b → field_of i < 3 → get_or (from_cents b) i 0 ≡ get_or b i 0
  pub amount_to : (b : List ℕ) (r : ℕ) → ToCents b → r < record_count b → dvp_amount (to_cents b) r *ℤ pos cent ≡ dvp_amount b r
  pub amount_from : (b : List ℕ) (r : ℕ) → FromCents b → r < record_count (unmarked b) → dvp_amount (from_cents b) r ≡ dvp_amount b r *ℤ pos cent
  -- each record by itself, so that an edit of one moves its words alone
  pub record_to : (b : List ℕ) (r : ℕ) → ToCents b → r < record_count b → record_at (to_cents b) r ≡ record_with b r (quot_z (dvp_amount b r) (pos cent))
  pub record_from : (b : List ℕ) (r : ℕ) → FromCents b → r < record_count (unmarked b) → record_at (from_cents b) r ≡ record_with b r (dvp_amount b r *ℤ pos cent)
  -- a refusal's number and place; then "output memory that is too short is 40, last", with the words needed; else 0 and the length
  pub numbers_to : (b : List ℕ) (room : ℕ) → Numbers (to_cents_check b) (length (to_cents b)) room (to_cents_answer b room)
  pub numbers_from : (b : List ℕ) (room : ℕ) → Numbers (from_cents_check b) (length (from_cents b)) room (from_cents_answer b room)
  -- a refusal leaves the memory as it was; else the words stand at its front and those past them remain
  pub refused_to : (b m : List ℕ) (k : Check) → to_cents_answer b (length m) ≡ Err k → to_cents_after b m ≡ m
  pub refused_from : (b m : List ℕ) (k : Check) → from_cents_answer b (length m) ≡ Err k → from_cents_after b m ≡ m
  pub writes_to : (b m : List ℕ) → ToCents b → length b ≤ length m → to_cents_after b m ≡ to_cents b ++ drop (length b) m
  pub writes_from : (b m : List ℕ) → FromCents b → length b ≤ length m → from_cents_after b m ≡ from_cents b ++ drop (length b) m
