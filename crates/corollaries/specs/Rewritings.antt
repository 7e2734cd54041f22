-- A batch rewritten: what RewritingClaims says of it.
use Rattle.std.specs.Prelude.{◌≡◌, ℕ, ◌≤◌, length, drop, ◌++◌}
use Rattle.std.proofs.Math.Path.{sym, ap}
use Rattle.std.proofs.Common.{◌∙◌, le_trans, le_of_eq}
use mathlib.Core.List.{List, [], ◌∷◌}
use Rattle.model.specs.Rows.{tried}
use Rattle.model.specs.DayChecks.{day_check}
use Rattle.model.specs.Batch.{batch_words}
use Rattle.model.specs.Netting.{net, dvp}
use Rattle.model.specs.DepositChecks.{deposit_check}
use Rattle.model.specs.Steps.Cover.{covered}
use Rattle.model.specs.Report.{report_words, words_needed}
use Rattle.model.specs.Calls.{verdict, outcome, answer, written, memory_after}
use Rattle.model.specs.Locality.{Reordered}
use Rattle.model.specs.Rewriting.{rewritten, rewriting}
use Rattle.model.specs.RewritingChecks.{rewrite_check, Rewritable}
use Rattle.model.specs.RewritingCalls.{rewrite_answer, rewrite_after}
use Rattle.model.proofs.Demand.{same_none}
use Rattle.model.proofs.HeldRecords.{rewritten_count, rewritten_length}
use Rattle.model.proofs.Nets.{net_order, dvp_order}
use Rattle.model.proofs.Orders.{orders}
use Rattle.model.proofs.Outcome.{leaves_words}
use Rattle.corollaries.specs.RewrittenRecords.{rewritten-records}
use Rattle.corollaries.specs.FewHeld.{few_held}
use Rattle.corollaries.specs.Summed.{Summed}
use Rattle.corollaries.specs.RewritingRows.{above_first, same_refusals, passes, rewritable_is, batch_of_lem, rewritable_summed, rewritable_accepted}
use Rattle.corollaries.specs.Numbers.{rewrite_numbers}
use Rattle.corollaries.specs.Untouched.{rewrite_refused_writes_nothing, rewrite_length_kept}
use Rattle.corollaries.specs.RewritingOnly.{not_in_reports, not_in_bytes, not_in_accounts}
use Rattle.model.proofs.NettingRows.{dvp_within, dvps_by}
use Rattle.corollaries.specs.RewritingAgain.{same_nets, same_dvps, still_rewritable, still_accepted}
use Rattle.corollaries.specs.RewritingRecords.{one_zero_lem, only_held_lem, each_held_lem, ordered_lem}
use Rattle.corollaries.specs.RewritingClaims.{Rewritings}

-- ---- the report

module _ (d b : List ℕ) (e : Rewritable d b) where
  abbrev s : Summed d b
  s = rewritable_summed d b e

  abbrev again_of : Rewritable d (rewriting b)
  again_of = still_rewritable d b s

  same_verdict : (x : List ℕ) → verdict d (rewriting b) x ≡ verdict d b x
  unfolding verdict
  same_verdict x =
      let p = batch_of_lem d (rewriting b) again_of ∙ sym (batch_of_lem d b e) in
      let q = (rewritable_summed d (rewriting b) again_of).netting ∙ sym s.netting in
      λ i. tried (day_check d ∷ p i ∷ q i ∷ deposit_check d x ∷ [])

  same_answer : (x : List ℕ) (room : ℕ) → answer d (rewriting b) x room ≡ answer d b x room
  unfolding answer
  same_answer x room = λ i. outcome (same_verdict x i) (words_needed d (same_nets d b s i) (same_dvps d b s i)) room

  same_memory : (x m : List ℕ) → memory_after d (rewriting b) x m ≡ memory_after d b x m
  unfolding memory_after
  same_memory x m = λ i. written (same_answer x (length m) i) (report_words d (same_nets d b s i) (covered d x (same_nets d b s i)) (same_dvps d b s i)) m

  again : rewriting (rewriting b) ≡ rewriting b
  again = λ i. rewritten (same_nets d b s i) (same_dvps d b s i)

-- ---- the words written

writes_words : (d b m : List ℕ) → Rewritable d b → length (rewriting b) ≤ length m → rewrite_after d b m ≡ rewriting b ++ drop (length (rewriting b)) m
unfolding rewrite_after rewrite_answer
writes_words d b m e h = leaves_words (rewrite_check d b) (length (rewriting b)) (rewriting b) m e h

-- ---- two batches that have one rewriting

module _ (d b₁ b₂ : List ℕ) (p : Rewritable d b₁) (q : Rewritable d b₂) (e : rewriting b₁ ≡ rewriting b₂) where
  one_answer : (room : ℕ) → rewrite_answer d b₁ room ≡ rewrite_answer d b₂ room
  unfolding rewrite_answer
  one_answer room = λ i. outcome ((p ∙ sym q) i) (length (e i)) room

  one_memory : (m : List ℕ) → rewrite_after d b₁ m ≡ rewrite_after d b₂ m
  unfolding rewrite_after
  one_memory m = λ i. written (one_answer (length m) i) (e i) m

-- another order of the records
module _ (d b₁ b₂ : List ℕ) (e : Rewritable d b₁) (o : Reordered b₁ b₂) where
  order_rewriting : rewriting b₁ ≡ rewriting b₂
  order_rewriting = λ i. rewritten (net_order b₁ b₂ o.same i) (dvp_order b₁ b₂ o.same i)

  order_rewritable : Rewritable d b₂
  order_rewritable =
      passes d b₂ (orders.accepted d b₁ b₂ [] [] (rewritable_accepted d b₁ e) o same_none)
      (dvps_by b₂ (λ p. rw (dvp_order b₁ b₂ o.same) at (dvp_within b₁ (rewritable_summed d b₁ e).dvps p)))

pub rewritings : Rewritings
rewritings =
    record {
      refusals = same_refusals;
      rewritable = rewritable_is;
      place31 = above_first;
      reports = not_in_reports;
      byte_reports = not_in_bytes;
      accounts = not_in_accounts;
      numbers = rewrite_numbers;
      refused = rewrite_refused_writes_nothing;
      kept_length = rewrite_length_kept;
      writes = writes_words;
      words = λ b. rewritten_length (net b) (dvp b) ∙ ap batch_words (sym (rewritten_count (net b) (dvp b)));
      fewer = λ b. le_trans (le_of_eq (rewritten_count (net b) (dvp b))) (few_held b);
      records_are = λ b. rewritten-records (net b) (dvp b);
      only_held = only_held_lem;
      each_held = each_held_lem;
      ordered = ordered_lem;
      one_zero = one_zero_lem;
      accepted = λ d b e. still_accepted d b (rewritable_summed d b e);
      nets = λ d b e. same_nets d b (rewritable_summed d b e);
      dvps = λ d b e. same_dvps d b (rewritable_summed d b e);
      verdicts = λ d b x e. same_verdict d b e x;
      answers = λ d b x room e. same_answer d b e x room;
      memories = λ d b x m e. same_memory d b e x m;
      again = again;
      again_rewritable = again_of;
      again_answers = λ d b room e. one_answer d (rewriting b) b (again_of d b e) e (again d b e) room;
      again_memories = λ d b m e. one_memory d (rewriting b) b (again_of d b e) e (again d b e) m;
      orders = order_rewritable;
      order_answers = λ d b₁ b₂ room e o. one_answer d b₁ b₂ e (order_rewritable d b₁ b₂ e o) (order_rewriting d b₁ b₂ e o) room;
      order_memories = λ d b₁ b₂ m e o. one_memory d b₁ b₂ e (order_rewritable d b₁ b₂ e o) (order_rewriting d b₁ b₂ e o) m;
    }
