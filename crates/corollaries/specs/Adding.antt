-- A record added to a batch: what RewritingClaims says of it.
use Rattle.std.specs.Prelude.{◌≡◌, ℕ, ◌≤◌, ◌+ℤ◌, length, drop}
use Rattle.std.proofs.Math.Path.{sym}
use Rattle.std.proofs.Common.{◌∙◌}
use mathlib.Core.List.{List, ◌++◌}
use Rattle.model.specs.Batch.{record_words}
use Rattle.model.specs.Netting.{net, dvp}
use Rattle.model.specs.Rewriting.{rewritten, rewriting, added}
use Rattle.model.specs.RewritingChecks.{Rewritable, add_check, Addable}
use Rattle.model.specs.RewritingCalls.{add_answer, add_after}
use Rattle.model.proofs.Nets.{net_of, dvp_of}
use Rattle.model.proofs.Outcome.{leaves_words}
use Rattle.corollaries.specs.Numbers.{add_numbers}
use Rattle.corollaries.specs.Untouched.{add_refused_writes_nothing, add_length_kept}
use Rattle.corollaries.specs.RewritingRows.{rewritable_summed}
use Rattle.corollaries.specs.RewritingAgain.{same_nets, same_dvps, still_rewritable, still_accepted}
use Rattle.corollaries.specs.AddedBatch.{added-records, net-added, dvp-added, same_net_added, same_dvp_added}
use Rattle.corollaries.specs.AddingRows.{header_given, other_words, space, both_rows, same_rows, same_answer, same_memory, whole_parts, add_parts, add_summed}
use Rattle.corollaries.specs.AddingAlike.{Alike, alike_answer, alike_memory, reordered_alike, netted_alike}
use Rattle.corollaries.specs.RewritingClaims.{Additions}

-- ---- a record that can be added

module _ (d b w : List ℕ) (e : Addable d b w) where
  writes_words : (m : List ℕ) → length (rewriting (added b w)) ≤ length m → add_after d b w m ≡ rewriting (added b w) ++ drop (length (rewriting (added b w))) m
  unfolding add_after add_answer
  writes_words m h = leaves_words (add_check d b w) (length (rewriting (added b w))) (rewriting (added b w)) m e h

  add-nets : (p : ℕ) → net (rewriting (added b w)) p ≡ net b p +ℤ net_of p w
  add-nets p = (λ i. same_nets d (added b w) (add_summed d b w e) i p) ∙ net-added b w (add_parts d b w e) p

  add_dvps : (p : ℕ) → dvp (rewriting (added b w)) p ≡ dvp b p +ℤ dvp_of p w
  add_dvps p = (λ i. same_dvps d (added b w) (add_summed d b w e) i p) ∙ dvp-added b w (add_parts d b w e) p

-- ---- adding to a rewriting

module _ (d b w : List ℕ) (e : Rewritable d b) where
  kept : length w ≡ record_words → rewriting (added (rewriting b) w) ≡ rewriting (added b w)
  kept six =
      let s = rewritable_summed d b e in
      let h = whole_parts d (rewriting b) w (still_rewritable d b s) six in
      let k = whole_parts d b w e six in
      λ i. rewritten (same_net_added (rewriting b) b w h k (same_nets d b s) i) (same_dvp_added (rewriting b) b w h k (same_dvps d b s) i)

  -- and as calls, both ways
  kept_alike : Addable d b w → Alike d b (rewriting b) w
  kept_alike a =
      let s = rewritable_summed d b e in
      netted_alike d b (rewriting b) w a (still_rewritable d b s) (sym (same_nets d b s)) (sym (same_dvps d b s))

  kept_back : Addable d (rewriting b) w → Addable d b w
  kept_back a = let s = rewritable_summed d b e in (netted_alike d (rewriting b) b w a e (same_nets d b s) (same_dvps d b s)).addable

pub additions : Additions
additions =
    record {
      given20 = header_given;
      other21 = other_words;
      last = added-records;
      nets = λ b w p h. net-added b w h p;
      dvps = λ b w p h. dvp-added b w h p;
      both = both_rows;
      rows = same_rows;
      answers = λ d b w room h l. same_answer d b w h l room;
      memories = λ d b w m h l. same_memory d b w h l m;
      space = space;
      numbers = add_numbers;
      refused = add_refused_writes_nothing;
      kept_length = add_length_kept;
      writes = λ d b w m e h. writes_words d b w e m h;
      accepted = λ d b w e. still_accepted d (added b w) (add_summed d b w e);
      rewritable = λ d b w e. still_rewritable d (added b w) (add_summed d b w e);
      added_nets = λ d b w p e. add-nets d b w e p;
      added_dvps = λ d b w p e. add_dvps d b w e p;
      orders = λ d b₁ b₂ w e o. (reordered_alike d b₁ b₂ w e o).addable;
      order_answers = λ d b₁ b₂ w room e o. alike_answer d b₁ b₂ w e (reordered_alike d b₁ b₂ w e o) room;
      order_memories = λ d b₁ b₂ w m e o. alike_memory d b₁ b₂ w e (reordered_alike d b₁ b₂ w e o) m;
      kept = kept;
      kept_addable = λ d b w e a. (kept_alike d b w e a).addable;
      kept_back = kept_back;
      kept_answers = λ d b w room e a. sym (alike_answer d b (rewriting b) w a (kept_alike d b w e a) room);
      kept_memories = λ d b w m e a. sym (alike_memory d b (rewriting b) w a (kept_alike d b w e a) m);
    }
