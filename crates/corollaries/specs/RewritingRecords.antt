-- The records of a rewriting: one quantity is 0 in each, they are of the positions held, and rise in their order.
use Rattle.std.specs.Prelude.{◌≡◌, refl, true, false, not, ◌&&◌, ◌⊎◌, ℕ, zero, suc, ◌<◌, ℤ, pos, negsuc, get_or}
use Rattle.std.proofs.Math.Path.{sym, ap}
use Rattle.std.proofs.Common.{◌∙◌, true≢false, inl, inr, arith, lt-ltb}
use mathlib.Core.List.{List}
use Rattle.std.proofs.lemmas.Bool.{not-false}
use Rattle.std.proofs.Math.Dec.{ltb}
use Rattle.numbers.specs.Tests.{and_false}
use Rattle.model.specs.Words.{payload, word}
use Rattle.model.specs.Batch.{record_count, key, long, short}
use Rattle.model.specs.Netting.{position_count, net, dvp}
use Rattle.model.specs.Steps.Positions.{held}
use Rattle.model.specs.Locality.{records}
use Rattle.model.specs.Rewriting.{in_order, long_of, short_of, held_records, rewriting}
use Rattle.model.specs.RewritingChecks.{Rewritable}
use Rattle.model.proofs.HeldRecords.{held_at, record_at_place}
use Rattle.model.proofs.Nets.{key_of}
use Rattle.corollaries.specs.PositionOrder.{order_of, in_order_below, order_of_lem}
use Rattle.corollaries.specs.PositionRecord.{key_read}
use Rattle.corollaries.specs.RewrittenRecords.{rewritten-records, held_clear}
use Rattle.corollaries.specs.FewHeld.{behind}
use Rattle.corollaries.specs.RewritingRows.{rewritable_summed}
use Rattle.corollaries.specs.Rising.{Rising, chosen_rises}
use Rattle.corollaries.specs.RewritingAgain.{same_nets, same_dvps}

-- ---- one quantity is 0

one_half : (x y : ℕ) → (ltb 0 x && ltb 0 y) ≡ false → (x ≡ 0) ⊎ (y ≡ 0)
one_half zero y e = inl refl
one_half (suc x) zero e = inr refl
one_half (suc x) (suc y) e = absurd (true≢false (sym (λ i. lt-ltb 0 (suc x) (omega arith) i && lt-ltb 0 (suc y) (omega arith) i) ∙ e))

one_side : (x : ℤ) → (ltb 0 (payload (word 4 (long_of x))) && ltb 0 (payload (word 4 (short_of x)))) ≡ false
one_side (pos n) = refl
one_side (negsuc n) = and_false (ltb 0 (payload (word 4 (suc n))))

pub one_zero_lem : (b : List ℕ) (r : ℕ) → r < record_count (rewriting b) → (long (rewriting b) r ≡ 0) ⊎ (short (rewriting b) r ≡ 0)
one_zero_lem b r h =
    one_half (long (rewriting b) r) (short (rewriting b) r)
    (held_clear (net b) (dvp b) (λ w. ltb 0 (payload (get_or w 1 0)) && ltb 0 (payload (get_or w 2 0))) (λ i l e. one_side (net b (in_order i))) r h)

-- ---- the positions of its records

pub only_held_lem : (b : List ℕ) (r : ℕ) → r < record_count (rewriting b) → held (net b) (dvp b) (key (rewriting b) r) ≡ true
only_held_lem b r h =
    not-false (held (net b) (dvp b) (key (rewriting b) r))
    (held_clear (net b) (dvp b) (λ w. not (held (net b) (dvp b) (key_of w))) (λ i l e. rw (key_read (in_order i) (in_order_below i l), e)) r h)

pub each_held_lem : (d b : List ℕ) (p : ℕ) → Rewritable d b → held (net b) (dvp b) p ≡ true → (r : ℕ) × (r < record_count (rewriting b)) × (key (rewriting b) r ≡ p)
each_held_lem d b p e h =
    let s = rewritable_summed d b e in
    behind (rewriting b) p ((λ i. held (same_nets d b s i) (same_dvps d b s i) p) ∙ h)

pub ordered_lem : (b : List ℕ) → Rising (λ w. order_of (key_of w)) position_count 0 (records (rewriting b))
unfolding held_records
ordered_lem b =
    rw (rewritten-records (net b) (dvp b))
    (chosen_rises (λ w. order_of (key_of w)) (held_at (net b) (dvp b)) (record_at_place (net b) (dvp b)) position_count
    (λ i l e. ap order_of (key_read (in_order i) (in_order_below i l)) ∙ order_of_lem i l))
