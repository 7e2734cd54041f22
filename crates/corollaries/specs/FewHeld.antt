-- No more positions are held than there are records.
use Rattle.std.specs.Prelude.{◌≡◌, refl, Bool, ◌&&◌, ◌||◌, cond, List, length}
use Rattle.std.proofs.Math.Path.{sym, ap}
use Rattle.std.proofs.Common.{◌∙◌, true≢false, ⊎_elim, le_trans, le_of_eq, arith}
use Rattle.std.proofs.Math.Bool.{true, false}
use Prim.Native.Nat.{ℕ, ◌≤◌, ◌<◌}
use borrow.Author.Tests.{eq-eqb}
use Rattle.std.proofs.Math.Dec.{eqb}
use Rattle.numbers.specs.Budget.{sum_n_where, sum_n-ones, sum_n_at, sum_n_le, parts_le}
use Rattle.model.specs.Batch.{record_count, key}
use Rattle.model.specs.Netting.{position_count, net, dvp}
use Rattle.model.specs.Steps.Positions.{not_zero, held}
use Rattle.model.specs.Rewriting.{in_order, held_records}
use Rattle.model.proofs.HeldRecords.{held_at, held_length}
use Rattle.model.proofs.Nets.{record_or_none}
use Rattle.corollaries.specs.PositionOrder.{order_of, order_of_lem}

module _ (b : List ℕ) where
  -- a position held has a record
  pub behind : (p : ℕ) → held (net b) (dvp b) p ≡ true → (r : ℕ) × (r < record_count b) × (key b r ≡ p)
  behind p h =
      ⊎_elim (λ z. z) (λ z. absurd (true≢false (sym h ∙ (λ i. not_zero (z.0 i) || not_zero (z.1 i))))) (record_or_none b p)

  abbrev at_order : ℕ → ℕ
  at_order i = sum_n_where (record_count b) (λ r. true && eqb (order_of (key b r)) i) (λ r. 1)

  counted : (i : ℕ) → i < position_count → (h : Bool) → held_at (net b) (dvp b) i ≡ h → cond h 1 0 ≤ at_order i
  counted i l true e =
      let z = behind (in_order i) e in
      let q : order_of (key b z.0) ≡ i = ap order_of z.2 ∙ order_of_lem i l in
      let one : ◌≡◌ {A = ℕ} (cond (eqb (order_of (key b z.0)) i) 1 0) 1 = rw (eq-eqb (order_of (key b z.0)) i q) in
      omega (arith, sum_n_at (record_count b) (λ r. cond (eqb (order_of (key b r)) i) 1 0) z.0 z.1)
  counted i l false e = omega arith

  pub few_held : length (held_records (net b) (dvp b)) ≤ record_count b
  few_held =
      le_trans (le_of_eq (held_length (net b) (dvp b)))
      (le_trans (sum_n_le position_count (λ i. cond (held_at (net b) (dvp b) i) 1 0) at_order (λ i l. counted i l (held_at (net b) (dvp b) i) refl))
      (le_trans (parts_le position_count (record_count b) (λ r. true) (λ r. order_of (key b r)) (λ i. i) (λ r. 1) (λ i j e. e)) (le_of_eq (sum_n-ones (record_count b)))))
