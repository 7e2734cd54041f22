-- The answers of the two calls, a stage at a time. d is the day file, b the batch, w the words of a record.
use Rattle.std.specs.Prelude.{◌≡◌, List, [], ◌∷◌, ℕ, length, Ok, Err}
use Rattle.std.proofs.Math.Path.{refl}
use Rattle.std.proofs.Common.{sym, ap, ◌∙◌}
use Rattle.model.specs.Outcomes.{Answer, Verdict}
use Rattle.model.specs.declared.Check.{Check}
use Rattle.model.specs.declared.Check.TheVariants.{BatchHeader, BatchLength}
use Rattle.model.specs.declared.BatchHeaderFault.TheVariants.{BadBatchHeader}
use Rattle.model.specs.declared.BatchLengthFault.TheVariants.{BadBatchLength}
use Rattle.model.specs.Rows.{plain_row, tried}
use Rattle.model.specs.DayChecks.{day_check}
use Rattle.model.specs.BatchChecks.{row20, word_check, position_check, batch_check}
use Rattle.model.specs.Calls.{answer_of, outcome, room_answer, written}
use Rattle.model.specs.Rewriting.{rewriting, added}
use Rattle.model.specs.RewritingChecks.{rewriting_check, rewrite_check, added_row21, add_check}
use Rattle.model.specs.RewritingCalls.{rewrite_answer, rewrite_after, add_answer, add_after}
use Rattle.model.proofs.Verdicts.{answer_failed, answer-passed, answer_last, tried_behind}

-- ---- a batch rewritten

module _ (d b : List ℕ) (room : ℕ) where
  pub rewrite_day : (k : Check) → day_check d ≡ Err k → Err k ≡ rewrite_answer d b room
  unfolding rewrite_answer rewrite_check
  rewrite_day k e = answer_failed _ _ _ k _ refl e

  module _ (day : day_check d ≡ Ok tt) where
    pub rewrite_batch : (k : Check) → batch_check d b ≡ Err k → Err k ≡ rewrite_answer d b room
    unfolding rewrite_answer rewrite_check
    rewrite_batch k e = answer-passed _ _ _ _ _ refl day (answer_failed _ _ _ k _ refl e)

    pub rewrite_nets : batch_check d b ≡ Ok tt → outcome (rewriting_check d b) (length (rewriting b)) room ≡ rewrite_answer d b room
    unfolding rewrite_answer rewrite_check
    rewrite_nets e =
        answer-passed _ _ _ _ _ refl day (answer-passed _ _ _ _ _ refl e (answer_last (rewriting_check d b) (room_answer (length (rewriting b)) room)))

-- what the answer leaves
pub rewrite_leaves : (d b m : List ℕ) (r : Answer) → r ≡ rewrite_answer d b (length m) → written r (rewriting b) m ≡ rewrite_after d b m
unfolding rewrite_after
rewrite_leaves d b m r e = ap (λ (a : Answer). written a (rewriting b) m) e

-- ---- a record added

-- rows 20 and 21, and those of the batch with the record as its last
abbrev pub lengths_check : List ℕ → List ℕ → Verdict
lengths_check b w = tried (plain_row (BatchHeader BadBatchHeader) (row20 b) ∷ plain_row (BatchLength BadBatchLength) (added_row21 b w) ∷ [])

abbrev pub added_check : List ℕ → List ℕ → Verdict
added_check d c = tried (word_check c ∷ position_check d c ∷ rewriting_check d c ∷ [])

-- the rows of a batch with its record added, a stage at a time; n are the words to write
module _ (d c : List ℕ) (n room : ℕ) where
  pub words_refused : (k : Check) → word_check c ≡ Err k → Err k ≡ outcome (added_check d c) n room
  words_refused k e = answer_failed _ _ _ k _ refl e

  module _ (words : word_check c ≡ Ok tt) where
    pub positions_refused : (k : Check) → position_check d c ≡ Err k → Err k ≡ outcome (added_check d c) n room
    positions_refused k e = answer-passed _ _ _ _ _ refl words (answer_failed _ _ _ k _ refl e)

    pub positions_passed : position_check d c ≡ Ok tt → outcome (rewriting_check d c) n room ≡ outcome (added_check d c) n room
    positions_passed e = answer-passed _ _ _ _ _ refl words (answer-passed _ _ _ _ _ refl e (answer_last (rewriting_check d c) (room_answer n room)))

module _ (d b w : List ℕ) (room : ℕ) where
  pub add_day : (k : Check) → day_check d ≡ Err k → Err k ≡ add_answer d b w room
  unfolding add_answer add_check
  add_day k e = answer_failed _ _ _ k _ refl e

  module _ (day : day_check d ≡ Ok tt) where
    -- rows 20 and 21 as one stage
    abbrev words : ℕ
    words = length (rewriting (added b w))

    one_stage : (u : Answer)
        → u ≡ answer_of (tried (lengths_check b w ∷ word_check (added b w) ∷ position_check d (added b w) ∷ rewriting_check d (added b w) ∷ [])) (room_answer words room)
        → u ≡ add_answer d b w room
    unfolding add_answer add_check
    one_stage u e =
        answer-passed _ _ _ _ _ refl day
        (e
        ∙ ap (λ (v : Verdict). answer_of v (room_answer words room))
        (sym
        (tried_behind (plain_row (BatchHeader BadBatchHeader) (row20 b) ∷ plain_row (BatchLength BadBatchLength) (added_row21 b w) ∷ [])
        (word_check (added b w) ∷ position_check d (added b w) ∷ rewriting_check d (added b w) ∷ []))))

    pub add_lengths : (k : Check) → lengths_check b w ≡ Err k → Err k ≡ add_answer d b w room
    add_lengths k e = one_stage (Err k) (answer_failed _ _ _ k _ refl e)

    pub add_rows : lengths_check b w ≡ Ok tt → outcome (added_check d (added b w)) words room ≡ add_answer d b w room
    add_rows e = one_stage _ (answer-passed _ _ _ _ _ refl e refl)

pub add_leaves : (d b w m : List ℕ) (r : Answer) → r ≡ add_answer d b w (length m) → written r (rewriting (added b w)) m ≡ add_after d b w m
unfolding add_after
add_leaves d b w m r e = ap (λ (a : Answer). written a (rewriting (added b w)) m) e
