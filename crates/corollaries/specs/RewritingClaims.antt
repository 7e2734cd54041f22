-- What is claimed of rewriting a batch and of adding a record (U7), for every day file d, batch b, deposits x, record w and memory m. Proved in Rewritings and Adding. Words in quotes are the request's.
use Rattle.std.specs.Prelude.{◌≡◌, ◌≢◌, false, true, ◌⊎◌, List, [], ◌∷◌, ◌++◌, ℕ, ◌≤◌, ◌<◌, ltb, nat_abs, ◌+ℤ◌, length, drop, Ok, Err}
use Rattle.model.specs.declared.Check.{Check}
use Rattle.model.specs.declared.Check.TheVariants.{BatchHeader, BatchLength, Netting}
use Rattle.model.specs.declared.BatchHeaderFault.TheVariants.{BadBatchHeader}
use Rattle.model.specs.declared.BatchLengthFault.TheVariants.{BadBatchLength}
use Rattle.model.specs.declared.NettingFault.TheVariants.{DvpTooLarge, NoSpace}
use Rattle.model.specs.Outcomes.{Verdict}
use Rattle.model.specs.Answers.{status_of}
use Rattle.model.specs.Limits.{dvp_amount_limit, most_records}
use Rattle.model.specs.Rows.{tried, plain_row}
use Rattle.model.specs.DayChecks.{day_check}
use Rattle.model.specs.Batch.{record_count, record_words, batch_words, key, long, short}
use Rattle.model.specs.BatchChecks.{row20, word_check, position_check}
use Rattle.model.specs.Netting.{position_count, net, dvp, netting_check}
use Rattle.model.specs.Steps.Positions.{held}
use Rattle.model.specs.Calls.{verdict, Accepted, answer, memory_after}
use Rattle.model.specs.Bytes.{byte_answer}
use Rattle.model.specs.ManyAccounts.{reports_answer}
use Rattle.model.specs.Locality.{records, Reordered}
use Rattle.model.specs.Rewriting.{held_records, rewriting, added}
use Rattle.model.specs.RewritingChecks.{row31, dvp_check, rewriting_check, rewrite_check, Rewritable, added_row21, add_check, Addable}
use Rattle.model.specs.RewritingCalls.{rewrite_answer, rewrite_after, add_answer, add_after}
use Rattle.model.proofs.Added.{Parts}
use Rattle.model.proofs.Nets.{key_of, net_of, dvp_of}
use Rattle.corollaries.specs.Numbers.{Numbers}
use Rattle.corollaries.specs.Rising.{Rising}
use Rattle.corollaries.specs.PositionOrder.{order_of}

-- ---- a batch rewritten

-- "a summed DVP above the record limit is 31 with the position's first record as place": r is that record, and no earlier one is of such a position
pub record FirstAbove (b : List ℕ) (r : ℕ) : Type 0 where
  pub below : r < record_count b
  pub above : dvp_amount_limit < nat_abs (dvp b (key b r))
  pub first : (q : ℕ) → q < r → key b q ≢ key b r
  pub earliest : (q : ℕ) → q < r → nat_abs (dvp b (key b q)) ≤ dvp_amount_limit

pub record Rewritings : Type 0 where
  -- refused is what the report without deposits refuses, then what has such a DVP, and nothing else: row 32 is never met
  pub refusals : (d b : List ℕ) → rewrite_check d b ≡ tried (verdict d b [] ∷ dvp_check b ∷ [])
  pub rewritable : (d b x : List ℕ) → Accepted d b x → ((r : ℕ) → r < record_count b → row31 b r ≡ false) → Rewritable d b
  pub place31 : (b : List ℕ) (r : ℕ) → dvp_check b ≡ Err (Netting DvpTooLarge r) → FirstAbove b r
  -- rows 31 and 32 are "in these calls only"
  pub reports : (d b x : List ℕ) (room : ℕ) → (status_of (answer d b x room) ≢ 31) × (status_of (answer d b x room) ≢ 32)
  pub byte_reports : (day b : List ℕ) (room : ℕ) → (status_of (byte_answer day b room) ≢ 31) × (status_of (byte_answer day b room) ≢ 32)
  pub accounts : (d bs ns : List ℕ) (entries room : ℕ) → (status_of (reports_answer d bs ns entries room) ≢ 31) × (status_of (reports_answer d bs ns entries room) ≢ 32)
  -- a refusal's number and place; then "output memory shorter than the result is 40, last", with the words needed; else 0 and the words written
  pub numbers : (d b : List ℕ) (room : ℕ) → Numbers (rewrite_check d b) (length (rewriting b)) room (rewrite_answer d b room)
  -- a refusal leaves the memory as it was; else the words stand at its front and those past them remain
  pub refused : (d b m : List ℕ) (k : Check) → rewrite_answer d b (length m) ≡ Err k → rewrite_after d b m ≡ m
  pub writes : (d b m : List ℕ) → Rewritable d b → length (rewriting b) ≤ length m → rewrite_after d b m ≡ rewriting b ++ drop (length (rewriting b)) m
  pub kept_length : (d b m : List ℕ) → length (rewrite_after d b m) ≡ length m
  -- "one record for each position whose net or DVP isn't zero"
  pub records_are : (b : List ℕ) → records (rewriting b) ≡ held_records (net b) (dvp b)
  pub only_held : (b : List ℕ) (r : ℕ) → r < record_count (rewriting b) → held (net b) (dvp b) (key (rewriting b) r) ≡ true
  pub each_held : (d b : List ℕ) (p : ℕ) → Rewritable d b → held (net b) (dvp b) p ≡ true → (r : ℕ) × (r < record_count (rewriting b)) × (key (rewriting b) r ≡ p)
  -- "ordered by series place, then open before exercised, then ordinary before fail": by order_of, strictly
  pub ordered : (b : List ℕ) → Rising (λ w. order_of (key_of w)) position_count 0 (records (rewriting b))
  -- "at least one quantity is zero in each"
  pub one_zero : (b : List ℕ) (r : ℕ) → r < record_count (rewriting b) → (long (rewriting b) r ≡ 0) ⊎ (short (rewriting b) r ≡ 0)
  -- it has no more records than the batch, and is a header and its records
  pub fewer : (b : List ℕ) → record_count (rewriting b) ≤ record_count b
  pub words : (b : List ℕ) → length (rewriting b) ≡ batch_words (record_count (rewriting b))
  -- it is accepted, and has the same net and DVP at every position
  pub accepted : (d b : List ℕ) → Rewritable d b → Accepted d (rewriting b) []
  pub nets : (d b : List ℕ) → Rewritable d b → net (rewriting b) ≡ net b
  pub dvps : (d b : List ℕ) → Rewritable d b → dvp (rewriting b) ≡ dvp b
  -- "its report must be the old one": the same answer and the same memory, with any deposits, refused ones too
  pub verdicts : (d b x : List ℕ) → Rewritable d b → verdict d (rewriting b) x ≡ verdict d b x
  pub answers : (d b x : List ℕ) (room : ℕ) → Rewritable d b → answer d (rewriting b) x room ≡ answer d b x room
  pub memories : (d b x m : List ℕ) → Rewritable d b → memory_after d (rewriting b) x m ≡ memory_after d b x m
  -- "rewriting twice gives the first rewriting": as words, as answer and in the memory
  pub again : (d b : List ℕ) → Rewritable d b → rewriting (rewriting b) ≡ rewriting b
  pub again_rewritable : (d b : List ℕ) → Rewritable d b → Rewritable d (rewriting b)
  pub again_answers : (d b : List ℕ) (room : ℕ) → Rewritable d b → rewrite_answer d (rewriting b) room ≡ rewrite_answer d b room
  pub again_memories : (d b m : List ℕ) → Rewritable d b → rewrite_after d (rewriting b) m ≡ rewrite_after d b m
  -- the order of the records changes nothing
  pub orders : (d b₁ b₂ : List ℕ) → Rewritable d b₁ → Reordered b₁ b₂ → Rewritable d b₂
  pub order_answers : (d b₁ b₂ : List ℕ) (room : ℕ) → Rewritable d b₁ → Reordered b₁ b₂ → rewrite_answer d b₁ room ≡ rewrite_answer d b₂ room
  pub order_memories : (d b₁ b₂ m : List ℕ) → Rewritable d b₁ → Reordered b₁ b₂ → rewrite_after d b₁ m ≡ rewrite_after d b₂ m

-- ---- a record added

-- "all earlier rows" than 32
unfoldable pub earlier_check : List ℕ → List ℕ → List ℕ → Verdict
earlier_check d b w =
    tried
    (day_check d
    ∷ plain_row (BatchHeader BadBatchHeader) (row20 b)
    ∷ plain_row (BatchLength BadBatchLength) (added_row21 b w)
    ∷ word_check (added b w)
    ∷ position_check d (added b w)
    ∷ netting_check d (added b w)
    ∷ dvp_check (added b w)
    ∷ [])

pub record Additions : Type 0 where
  -- "row 20 looks only at the batch as given, and a record of other than six words is 21"
  pub given20 : (d b w : List ℕ) → day_check d ≡ Ok tt → row20 b ≡ true → add_check d b w ≡ Err (BatchHeader BadBatchHeader 0)
  pub other21 : (d b w : List ℕ) → day_check d ≡ Ok tt → row20 b ≡ false → length w ≢ record_words → add_check d b w ≡ Err (BatchLength BadBatchLength 0)
  -- "the batch with that record as its last"
  pub last : (b w : List ℕ) → Parts b w → records (added b w) ≡ records b ++ (w ∷ [])
  pub nets : (b w : List ℕ) (p : ℕ) → Parts b w → net (added b w) p ≡ net b p +ℤ net_of p w
  pub dvps : (b w : List ℕ) (p : ℕ) → Parts b w → dvp (added b w) p ≡ dvp b p +ℤ dvp_of p w
  -- "checked like the others": all other rows look at both together
  pub both : (d b w : List ℕ) → Parts b w → add_check d b w ≡ tried (day_check d ∷ word_check (added b w) ∷ position_check d (added b w) ∷ rewriting_check d (added b w) ∷ [])
  -- so to fewer than 256 records, adding is rewriting the longer batch, with all its answers and refusals
  pub rows : (d b w : List ℕ) → Parts b w → record_count b < most_records → add_check d b w ≡ rewrite_check d (added b w)
  pub answers : (d b w : List ℕ) (room : ℕ) → Parts b w → record_count b < most_records → add_answer d b w room ≡ rewrite_answer d (added b w) room
  pub memories : (d b w m : List ℕ) → Parts b w → record_count b < most_records → add_after d b w m ≡ rewrite_after d (added b w) m
  -- "past all earlier rows, it lacks space exactly when that rewriting would hold more than 256 records"
  pub space : (d b w : List ℕ) → add_check d b w ≡ tried (earlier_check d b w ∷ plain_row (Netting NoSpace) (ltb most_records (record_count (rewriting (added b w)))) ∷ [])
  -- numbers, then refusals and words in the memory, as above
  pub numbers : (d b w : List ℕ) (room : ℕ) → Numbers (add_check d b w) (length (rewriting (added b w))) room (add_answer d b w room)
  pub refused : (d b w m : List ℕ) (k : Check) → add_answer d b w (length m) ≡ Err k → add_after d b w m ≡ m
  pub writes : (d b w m : List ℕ) → Addable d b w → length (rewriting (added b w)) ≤ length m
      → add_after d b w m ≡ rewriting (added b w) ++ drop (length (rewriting (added b w))) m
  pub kept_length : (d b w m : List ℕ) → length (add_after d b w m) ≡ length m
  -- what is added is accepted and can be rewritten, with these nets and DVPs
  pub accepted : (d b w : List ℕ) → Addable d b w → Accepted d (rewriting (added b w)) []
  pub rewritable : (d b w : List ℕ) → Addable d b w → Rewritable d (rewriting (added b w))
  pub added_nets : (d b w : List ℕ) (p : ℕ) → Addable d b w → net (rewriting (added b w)) p ≡ net b p +ℤ net_of p w
  pub added_dvps : (d b w : List ℕ) (p : ℕ) → Addable d b w → dvp (rewriting (added b w)) p ≡ dvp b p +ℤ dvp_of p w
  -- the order of the batch's records changes nothing
  pub orders : (d b₁ b₂ w : List ℕ) → Addable d b₁ w → Reordered b₁ b₂ → Addable d b₂ w
  pub order_answers : (d b₁ b₂ w : List ℕ) (room : ℕ) → Addable d b₁ w → Reordered b₁ b₂ → add_answer d b₁ w room ≡ add_answer d b₂ w room
  pub order_memories : (d b₁ b₂ w m : List ℕ) → Addable d b₁ w → Reordered b₁ b₂ → add_after d b₁ w m ≡ add_after d b₂ w m
  -- adding to a rewriting is adding to the batch: the same records can be added, and give the same words, answer and memory
  pub kept : (d b w : List ℕ) → Rewritable d b → length w ≡ record_words → rewriting (added (rewriting b) w) ≡ rewriting (added b w)
  pub kept_addable : (d b w : List ℕ) → Rewritable d b → Addable d b w → Addable d (rewriting b) w
  pub kept_back : (d b w : List ℕ) → Rewritable d b → Addable d (rewriting b) w → Addable d b w
  pub kept_answers : (d b w : List ℕ) (room : ℕ) → Rewritable d b → Addable d b w → add_answer d (rewriting b) w room ≡ add_answer d b w room
  pub kept_memories : (d b w m : List ℕ) → Rewritable d b → Addable d b w → add_after d (rewriting b) w m ≡ add_after d b w m
