-- The records of a table of nets n and DVPs v, rewritten: a test of them and a sum over them, by the positions held.
use Rattle.std.specs.Prelude.{◌≡◌, refl, Bool, true, false, ◌≢◌, eqb, ℤ, length}
use Rattle.std.proofs.Common.{sym, ◌∙◌, eq-eqb, ne_eqb}
use Rattle.std.proofs.Math.Path.{ap}
use Rattle.std.proofs.Math.Bool.{cond}
use mathlib.Core.List.{List}
use Prim.Native.Nat.{ℕ, ◌<◌}
use Rattle.std.proofs.Math.IntN.{pos}
use Rattle.numbers.specs.Lists.{any_of}
use Rattle.numbers.specs.Perms.{sum_of}
use Rattle.numbers.specs.Sums.{sum_to_ext, sum_to_single}
use Rattle.numbers.specs.Chosen.{chosen-sum, chosen_any}
use Rattle.numbers.specs.Tests.{or_left, or_right}
use Rattle.model.specs.Words.{word}
use Rattle.model.specs.Batch.{record_count}
use Rattle.model.specs.Netting.{position_count}
use Rattle.model.specs.Steps.Positions.{not_zero, held}
use Rattle.model.specs.Locality.{record_at, records}
use Rattle.model.specs.Rewriting.{in_order, held_records, rewritten}
use Rattle.model.proofs.HeldRecords.{held_at, record_at_place, held_each, rewritten_count}
use Rattle.model.proofs.Nets.{key_of}
use Rattle.model.proofs.NoLine.{no_size}
use Rattle.corollaries.specs.Batches.{records_back}
use Rattle.model.proofs.GoodRecord.{of_list}
use Rattle.corollaries.specs.PositionOrder.{order_of, order_below, in_order_below, in_order_lem, order_of_lem}
use Rattle.corollaries.specs.PositionRecord.{key_read}

module _ (n v : ℕ → ℤ) where
  -- what is not held is 0
  pub unheld_net : (p : ℕ) → held n v p ≡ false → n p ≡ pos 0
  unheld_net p e = no_size (n p) (or_left (not_zero (n p)) (not_zero (v p)) e)

  pub unheld_dvp : (p : ℕ) → held n v p ≡ false → v p ≡ pos 0
  unheld_dvp p e = no_size (v p) (or_right (not_zero (n p)) (not_zero (v p)) e)

  pub rewritten-records : records (rewritten n v) ≡ held_records n v
  unfolding rewritten
  rewritten-records = records_back (word 1 (length (held_records n v))) (held_records n v) (held_each n v) (rewritten_count n v)

  -- a test of a record's words that fails at every position held fails at every record
  pub held_clear : (t : List ℕ → Bool) → ((i : ℕ) → i < position_count → held_at n v i ≡ true → t (record_at_place n v i) ≡ false)
      → (r : ℕ) → r < record_count (rewritten n v) → t (record_at (rewritten n v) r) ≡ false
  unfolding held_records
  held_clear t h = of_list t (rewritten n v) (ap (any_of t) rewritten-records ∙ chosen_any (held_at n v) (record_at_place n v) t position_count h)

  -- what is summed by position: f reads from a record what g is at its position
  module _ (f : List ℕ → ℤ) (g : ℕ → ℤ) (z : (p : ℕ) → held n v p ≡ false → g p ≡ pos 0)
      (read : (i : ℕ) → i < position_count → held_at n v i ≡ true → f (record_at_place n v i) ≡ g (in_order i)) where
    term : (p i : ℕ) → i < position_count → (h : Bool) → held_at n v i ≡ h
        → cond h (cond (eqb (key_of (record_at_place n v i)) p) (f (record_at_place n v i)) (pos 0)) (pos 0) ≡ cond (eqb (in_order i) p) (g (in_order i)) (pos 0)
    term p i l true e = λ j. cond (eqb (key_read (in_order i) (in_order_below i l) j) p) (read i l e j) (pos 0)
    term p i l false e = sym (ap (λ (x : ℤ). cond (eqb (in_order i) p) x (pos 0)) (z (in_order i) e) ∙ same (eqb (in_order i) p))
      where
        same : (b : Bool) → cond b (pos 0) (pos 0) ≡ pos 0
        same true = refl
        same false = refl

    pub summed : (p : ℕ) → p < position_count → sum_of (λ w. cond (eqb (key_of w) p) (f w) (pos 0)) (records (rewritten n v)) ≡ g p
    unfolding held_records
    summed p l =
        let e = in_order_lem p l in
        let apart : (i : ℕ) → i < position_count → i ≢ order_of p → cond (eqb (in_order i) p) (g (in_order i)) (pos 0) ≡ pos 0 =
        λ i q d. ap (λ (b : Bool). cond b (g (in_order i)) (pos 0)) (ne_eqb (in_order i) p (λ w. d (sym (order_of_lem i q) ∙ ap order_of w)))
        in
        ap (sum_of (λ w. cond (eqb (key_of w) p) (f w) (pos 0))) rewritten-records
        ∙ chosen-sum (held_at n v) (record_at_place n v) (λ w. cond (eqb (key_of w) p) (f w) (pos 0)) position_count
        ∙ sum_to_ext position_count _ (λ i. cond (eqb (in_order i) p) (g (in_order i)) (pos 0)) (λ i q. term p i q (held_at n v i) refl)
        ∙ sum_to_single position_count (order_of p) (λ i. cond (eqb (in_order i) p) (g (in_order i)) (pos 0)) (order_below p l) apart
        ∙ ap (λ (b : Bool). cond b (g (in_order (order_of p))) (pos 0)) (eq-eqb (in_order (order_of p)) p e)
        ∙ ap g e
