-- The records of the positions held, in their order: how many there are and how long; and what rows 30 and 31 leave of each net and DVP.
use mathlib.Core.Path.{◌≡◌, refl}
use mathlib.Core.Bool.{Bool, true, false, cond}
use mathlib.Core.List.{List}
use Prim.Native.Nat.{ℕ, ◌≤◌}
use native.Mathlib.Omega.{arith}
use lib.IntN.{ℤ}
use lib.ListN.{length}
use Rattle.numbers.specs.Budget.{sum_n_where, sum_n_le, sum_n-ones}
use Rattle.numbers.specs.Chosen.{Each, chosen-length, chosen-each, joined_length}
use Rattle.model.specs.Batch.{record_count, record_words, batch_words}
use Rattle.model.specs.Netting.{position_count}
use Rattle.model.specs.Steps.{held}
use Rattle.model.specs.Rewriting.{in_order, record_for, held_records, rewritten}
use Rattle.model.proofs.WordsBack.{payload-word}

-- ---- of any nets n and DVPs v

module _ (n v : ℕ → ℤ) where
  -- the position at place i of the order is held, and its record
  abbrev pub held_at : ℕ → Bool
  held_at i = held n v (in_order i)

  abbrev pub record_at_place : ℕ → List ℕ
  record_at_place i = record_for n v (in_order i)

  pub held_length : length (held_records n v) ≡ sum_n_where position_count held_at (λ i. 1)
  unfolding held_records
  held_length = chosen-length held_at record_at_place position_count

  one_most : (b : Bool) → cond b 1 0 ≤ 1
  one_most true = omega arith
  one_most false = omega arith

  pub held_most : length (held_records n v) ≤ position_count
  held_most =
      omega (arith, held_length, sum_n_le position_count (λ i. cond (held_at i) 1 0) (λ i. 1) (λ i p. one_most (held_at i)), sum_n-ones position_count)

  pub held_each : Each record_words (held_records n v)
  unfolding held_records
  held_each = chosen-each held_at record_at_place record_words (λ i. refl) position_count

  pub rewritten_count : record_count (rewritten n v) ≡ length (held_records n v)
  unfolding rewritten
  rewritten_count = payload-word 1 (length (held_records n v)) (omega (arith, held_most))

  pub rewritten_length : length (rewritten n v) ≡ batch_words (length (held_records n v))
  unfolding rewritten
  rewritten_length = omega (arith, joined_length held_each)
