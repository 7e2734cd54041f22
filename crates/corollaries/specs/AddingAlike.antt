-- A record added to two batches that become alike: to the same records in another order, and to batches of the same nets and DVPs.
use Rattle.std.specs.Prelude.{◌≡◌, not, ◌||◌, eqb, ltb, length, false}
use Rattle.std.proofs.Math.Path.{sym, ap}
use Rattle.std.proofs.Common.{◌∙◌}
use mathlib.Core.List.{List, [], ◌∷◌, Perm}
use mathlib.Core.List.Perm.{append_right}
use Prim.Native.Nat.{ℕ}
use Rattle.numbers.specs.Chosen.{any_append}
use Rattle.numbers.specs.Lists.{any_of, any_perm}
use Rattle.numbers.specs.Tests.{or_right}
use Rattle.model.specs.Limits.{most_records}
use Rattle.model.specs.Words.{kind, payload}
use Rattle.model.specs.Batch.{batch_words}
use Rattle.model.specs.BatchChecks.{row20, row21}
use Rattle.model.specs.Netting.{net, dvp}
use Rattle.model.specs.Calls.{outcome, written}
use Rattle.model.specs.Locality.{records, Reordered}
use Rattle.model.specs.Rewriting.{rewritten, rewriting, added}
use Rattle.model.specs.RewritingChecks.{Rewritable, Addable}
use Rattle.model.specs.RewritingCalls.{add_answer, add_after}
use Rattle.model.proofs.Accepted.{RecordRows}
use Rattle.model.proofs.Nets.{net_order, dvp_order}
use Rattle.model.proofs.GoodRecord.{bad, rows_list, list_rows}
use Rattle.corollaries.specs.Summed.{summed_by}
use Rattle.corollaries.specs.RewritingRows.{rewritable_summed}
use Rattle.corollaries.specs.AddedBatch.{added-records, same_net_added, same_dvp_added}
use Rattle.corollaries.specs.AddingRows.{whole_parts, add_parts, add_summed, addable_of}
use Rattle.model.proofs.Added.{Parts}

-- to b and to c
pub record Alike (d b c w : List ℕ) : Type 0 where
  pub addable : Addable d c w
  pub same : rewriting (added b w) ≡ rewriting (added c w)

module _ (d b c w : List ℕ) (e : Addable d b w) where
  pub alike_by : Parts c w → RecordRows d (added c w) → net (added b w) ≡ net (added c w) → dvp (added b w) ≡ dvp (added c w) → Alike d b c w
  alike_by h r x y =
      record {
        addable = addable_of d c w h (summed_by d (added b w) (added c w) r x y (add_summed d b w e));
        same = λ i. rewritten (x i) (y i);
      }

  module _ (a : Alike d b c w) where
    pub alike_answer : (room : ℕ) → add_answer d b w room ≡ add_answer d c w room
    unfolding add_answer
    alike_answer room = λ i. outcome ((e ∙ sym a.addable) i) (length (a.same i)) room

    pub alike_memory : (m : List ℕ) → add_after d b w m ≡ add_after d c w m
    unfolding add_after
    alike_memory m = λ i. written (alike_answer (length m) i) (a.same i) m

  -- ---- c is b with its records in another order

  module _ (o : Reordered b c) where
    parts : Parts c w
    unfolding row20 row21
    parts =
        let h = add_parts d b w e in
        record {
          at20 = sym (λ i. eqb (o.long i) 0 || not (eqb (kind (o.header i)) 1) || ltb most_records (payload (o.header i))) ∙ h.at20;
          at21 = sym (λ i. not (eqb (o.long i) (batch_words (payload (o.header i))))) ∙ h.at21;
          six = h.six;
        }

    same_records : Perm (records (added b w)) (records (added c w))
    same_records = rw (added-records b w (add_parts d b w e), added-records c w parts) (append_right (w ∷ []) o.same)

    pub reordered_alike : Alike d b c w
    reordered_alike =
        let p = same_records in
        alike_by parts
        (list_rows d (added c w) (sym (any_perm (bad d) (records (added b w)) (records (added c w)) p) ∙ rows_list d (added b w) (add_summed d b w e).records))
        (net_order (added b w) (added c w) p) (dvp_order (added b w) (added c w) p)

  -- ---- c can be rewritten, and has the nets and the DVPs of b

  module _ (q : Rewritable d c) (x : net b ≡ net c) (y : dvp b ≡ dvp c) where
    whole : Parts c w
    whole = whole_parts d c w q (add_parts d b w e).six

    -- the records of c are good, and so is w, the last of those of b
    last_good : any_of (bad d) (w ∷ []) ≡ false
    last_good =
        or_right (any_of (bad d) (records b)) (any_of (bad d) (w ∷ []))
        (sym (ap (any_of (bad d)) (added-records b w (add_parts d b w e)) ∙ any_append (bad d) (records b) (w ∷ [])) ∙ rows_list d (added b w) (add_summed d b w e).records)

    still_good : RecordRows d (added c w)
    still_good =
        list_rows d (added c w)
        (ap (any_of (bad d)) (added-records c w whole)
        ∙ any_append (bad d) (records c) (w ∷ [])
        ∙ (λ i. rows_list d c (rewritable_summed d c q).records i || last_good i))

    pub netted_alike : Alike d b c w
    netted_alike = let h = add_parts d b w e in alike_by whole still_good (same_net_added b c w h whole x) (same_dvp_added b c w h whole y)
