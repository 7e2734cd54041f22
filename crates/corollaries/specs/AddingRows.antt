-- The rows that adding a record tries: 20 and 21 of the batch as given and of the record, then those of both together, and 32 last.
use Rattle.std.specs.Prelude.{◌≡◌, ◌≢◌, refl, false, true, ℕ, ◌<◌, ltb, length, Ok, Err}
use Rattle.std.proofs.Math.Path.{ap}
use Rattle.std.proofs.Common.{◌∙◌, le-ltb}
use mathlib.Core.List.{List, [], ◌∷◌, ◌++◌}
use borrow.Author.Tests.{eq-eqb, ne_eqb}
use Rattle.numbers.specs.Tests.{or_true}
use Rattle.model.specs.declared.Check.TheVariants.{BatchHeader, BatchLength, Netting}
use Rattle.model.specs.declared.BatchHeaderFault.TheVariants.{BadBatchHeader}
use Rattle.model.specs.declared.BatchLengthFault.TheVariants.{BadBatchLength}
use Rattle.model.specs.declared.NettingFault.TheVariants.{NoSpace}
use Rattle.model.specs.Outcomes.{Verdict, Answer}
use Rattle.model.specs.Limits.{most_records}
use Rattle.model.specs.Rows.{tried, plain_row}
use Rattle.model.specs.DayChecks.{day_check}
use Rattle.model.specs.Batch.{record_count, record_words}
use Rattle.model.specs.BatchChecks.{row20, row21, word_check, batch_form, position_check, batch_check}
use Rattle.model.specs.Netting.{net, dvp, netting_check}
use Rattle.model.specs.Calls.{outcome, written}
use Rattle.model.specs.Rewriting.{held_records, rewriting, added}
use Rattle.model.specs.RewritingChecks.{row32, dvp_check, space_check, rewriting_check, rewrite_check, Rewritable, added_row21, add_check, Addable}
use Rattle.model.specs.RewritingCalls.{rewrite_answer, rewrite_after, add_answer, add_after}
use Rattle.model.proofs.Added.{Parts, parts_of}
use Rattle.model.proofs.Accepted.{words_pass, positions_pass, plain_back, batch_checked, records_checked}
use Rattle.model.proofs.HeldRecords.{rewritten_count}
use Rattle.model.proofs.Verdicts.{◌then◌, tried-passed, tried_pass, tried_behind, tried_staged}
use Rattle.corollaries.specs.Summed.{Summed, summed_of}
use Rattle.corollaries.specs.RewritingRows.{batch_of_lem}
use Rattle.corollaries.specs.AddedBatch.{no20, no21}
use Rattle.corollaries.specs.RewritingClaims.{earlier_check}

-- the stages of the two calls, rows 20 and 21 passed
regroup : (D W P R : Verdict) → tried (D ∷ W ∷ P ∷ R ∷ []) ≡ tried (D ∷ tried (tried (W ∷ []) ∷ P ∷ []) ∷ R ∷ [])
unfolding tried
regroup (Ok _) (Ok _) (Ok _) R = refl
regroup (Ok _) (Ok _) (Err k) R = refl
regroup (Ok _) (Err k) P R = refl
regroup (Err k) W P R = refl

module _ (d b w : List ℕ) where
  pub header_given : day_check d ≡ Ok tt → row20 b ≡ true → add_check d b w ≡ Err (BatchHeader BadBatchHeader 0)
  unfolding add_check tried
  header_given p e = rw (p, e)

  pub other_words : day_check d ≡ Ok tt → row20 b ≡ false → length w ≢ record_words → add_check d b w ≡ Err (BatchLength BadBatchLength 0)
  unfolding add_check added_row21 tried
  other_words p e n = rw (p, e, ne_eqb (length w) record_words n, or_true (row21 b))

  pub space : add_check d b w ≡ tried (earlier_check d b w ∷ plain_row (Netting NoSpace) (ltb most_records (record_count (rewriting (added b w)))) ∷ [])
  unfolding earlier_check add_check rewriting_check space_check row32
  space =
      let c : List ℕ = added b w in
      let first : List Verdict =
      day_check d ∷ plain_row (BatchHeader BadBatchHeader) (row20 b) ∷ plain_row (BatchLength BadBatchLength) (added_row21 b w) ∷ word_check c ∷ position_check d c ∷ []
      in
      rw (rewritten_count (net c) (dvp c))
      (tried_staged first (netting_check d c ∷ dvp_check c ∷ space_check c ∷ []) ∙ tried_behind (first ++ (netting_check d c ∷ dvp_check c ∷ [])) (space_check c ∷ []))

  module _ (h : Parts b w) where
    pub both_rows : add_check d b w ≡ tried (day_check d ∷ word_check (added b w) ∷ position_check d (added b w) ∷ rewriting_check d (added b w) ∷ [])
    unfolding add_check added_row21 tried
    both_rows = rw (h.at20, h.at21, eq-eqb (length w) record_words h.six)

    module _ (l : record_count b < most_records) where
      pub same_rows : add_check d b w ≡ rewrite_check d (added b w)
      unfolding rewrite_check batch_check batch_form tried
      same_rows =
          both_rows
          ∙ rw (no20 b w h l, no21 b w h) (regroup (day_check d) (word_check (added b w)) (position_check d (added b w)) (rewriting_check d (added b w)))

      pub same_answer : (room : ℕ) → add_answer d b w room ≡ rewrite_answer d (added b w) room
      unfolding add_answer rewrite_answer
      same_answer room = ap (λ (v : Verdict). outcome v (length (rewriting (added b w))) room) same_rows

      pub same_memory : (m : List ℕ) → add_after d b w m ≡ rewrite_after d (added b w) m
      unfolding add_after rewrite_after
      same_memory m = ap (λ (a : Answer). written a (rewriting (added b w)) m) (same_answer (length m))

-- ---- a record that can be added, and back

-- to a batch that can be rewritten every record of six words has its parts
pub whole_parts : (d b w : List ℕ) → Rewritable d b → length w ≡ record_words → Parts b w
whole_parts d b w q six = let r = batch_checked d b (batch_of_lem d b q) in record { at20 = r.at20; at21 = r.at21; six = six }

module _ (d b w : List ℕ) (e : Addable d b w) where
  pub add_parts : Parts b w
  unfolding add_check
  add_parts = let z = tried-passed _ e in parts_of b w z.1.0 z.1.1.0

  pub add_summed : Summed d (added b w)
  unfolding add_check
  add_summed =
      let z = tried-passed _ e in
      summed_of d (added b w) z.0 (records_checked d (added b w) z.1.1.1.0 z.1.1.1.1.0) z.1.1.1.1.1.0

pub addable_of : (d b w : List ℕ) → Parts b w → Summed d (added b w) → Addable d b w
unfolding rewriting_check space_check row32
addable_of d b w h s =
    let c : List ℕ = added b w in
    both_rows d b w h
    ∙ tried_pass _
    (s.day
    then words_pass d c s.records
    then positions_pass d c s.records
    then tried_pass _
    (s.netting
    then s.dvps
    then plain_back (Netting NoSpace) (row32 c) (le-ltb most_records (length (held_records (net c) (dvp c))) s.space)
    then tt)
    then tt)
