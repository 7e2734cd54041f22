-- Demand 3, said of the memories that two calls over words leave.
use Rattle.std.specs.Prelude.{◌≡◌, List, ℕ, ◌≤◌, ◌<◌, length}
use Rattle.model.specs.Outcomes.{Answer}
use Rattle.model.specs.Calls.{Accepted, answer, memory_after, needed}
use Rattle.model.specs.Locality.{Edit, DepositEdit, LocalChange, Reordered, DepositsReordered}
use Rattle.model.proofs.Demand.{demand3}
use Rattle.model.specs.Limits.{group_count}

-- d a day file, b₁ and b₂ two batches, x₁ and x₂ their deposits, m₁ and m₂ the memories before the calls, w₁ and w₂ after them

-- an edit in group g of book k changes that line alone, and the totals by its margin's change
abbrev pub LocalEdit : List ℕ → List ℕ → List ℕ → List ℕ → List ℕ → List ℕ → List ℕ → List ℕ → List ℕ → Type 0
LocalEdit d b₁ b₂ x₁ x₂ m₁ m₂ w₁ w₂ =
    (g k : ℕ) → g < group_count → k < 2
    → Accepted d b₁ x₁ → Accepted d b₂ x₂ → Edit d g k b₁ b₂ → DepositEdit d g k x₁ x₂
    → needed d b₁ ≤ length m₁ → needed d b₂ ≤ length m₂
    → LocalChange w₁ w₂ g k

-- the records and the deposits in another order: from equal memories the same memory and the same answer; r₁ and r₂ are the answers
pub record Same (w₁ w₂ : List ℕ) (r₁ r₂ : Answer) : Type 0 where
  pub memories : w₁ ≡ w₂
  pub answers : r₁ ≡ r₂

abbrev pub SameOrder : List ℕ → List ℕ → List ℕ → List ℕ → List ℕ → List ℕ → List ℕ → List ℕ → List ℕ → Answer → Answer → Type 0
SameOrder d b₁ b₂ x₁ x₂ m₁ m₂ w₁ w₂ r₁ r₂ = Accepted d b₁ x₁ → Reordered b₁ b₂ → DepositsReordered x₁ x₂ → m₁ ≡ m₂ → Same w₁ w₂ r₁ r₂

-- ---- they hold of what the calls leave

module _ (d b₁ b₂ x₁ x₂ m₁ m₂ w₁ w₂ : List ℕ) where
  pub local_edit : w₁ ≡ memory_after d b₁ x₁ m₁ → w₂ ≡ memory_after d b₂ x₂ m₂ → LocalEdit d b₁ b₂ x₁ x₂ m₁ m₂ w₁ w₂
  local_edit p q g k hg hk a₁ a₂ e f h₁ h₂ = rw (p, q) (demand3.edits.local d b₁ b₂ x₁ x₂ m₁ m₂ g k hg hk a₁ a₂ e f h₁ h₂)

  module _ (r₁ r₂ : Answer) where
    pub same_order : w₁ ≡ memory_after d b₁ x₁ m₁ → w₂ ≡ memory_after d b₂ x₂ m₂ → r₁ ≡ answer d b₁ x₁ (length m₁) → r₂ ≡ answer d b₂ x₂ (length m₂)
        → SameOrder d b₁ b₂ x₁ x₂ m₁ m₂ w₁ w₂ r₁ r₂
    same_order p q u v a o z e =
        record {
          memories = rw (p, q, e) (demand3.orders.memories d b₁ b₂ x₁ x₂ m₂ a o z);
          answers = rw (u, v, e) (demand3.orders.answers d b₁ b₂ x₁ x₂ (length m₂) a o z);
        }
