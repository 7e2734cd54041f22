-- Demand 3, said of the memories that two byte calls leave.
use Rattle.std.specs.Prelude.{◌≡◌, List, ℕ, ◌/◌, ◌≤◌, ◌<◌, length}
use Rattle.model.specs.Outcomes.{Answer}
use Rattle.model.specs.Bytes.{words_of, byte_answer, bytes_after}
use Rattle.model.specs.Calls.{needed}
use Rattle.model.specs.Locality.{Edit, LocalChange, ByteAccepted, ByteReordered}
use Rattle.model.proofs.Demand.{demand3}
use Rattle.model.specs.Limits.{group_count}
use Rattle.locality.specs.Edits.{Same}

-- d a day file, b₁ and b₂ two batches, m₁ and m₂ the memories before the calls, w₁ and w₂ after them

-- an edit in group g of book k, read as words, changes that line alone, and the totals by its margin's change
abbrev pub LocalByteEdit : List ℕ → List ℕ → List ℕ → List ℕ → List ℕ → List ℕ → List ℕ → Type 0
LocalByteEdit d b₁ b₂ m₁ m₂ w₁ w₂ =
    (g k : ℕ) → g < group_count → k < 2
    → ByteAccepted d b₁ → ByteAccepted d b₂ → Edit (words_of d) g k (words_of b₁) (words_of b₂)
    → needed (words_of d) (words_of b₁) ≤ length m₁ / 4 → needed (words_of d) (words_of b₂) ≤ length m₂ / 4
    → LocalChange (words_of w₁) (words_of w₂) g k

-- the records in another order: from equal memories the same memory and the same answer; r₁ and r₂ are the answers
abbrev pub SameByteOrder : List ℕ → List ℕ → List ℕ → List ℕ → List ℕ → List ℕ → List ℕ → Answer → Answer → Type 0
SameByteOrder d b₁ b₂ m₁ m₂ w₁ w₂ r₁ r₂ = ByteAccepted d b₁ → ByteReordered b₁ b₂ → m₁ ≡ m₂ → Same w₁ w₂ r₁ r₂

-- ---- they hold of what the calls leave

module _ (d b₁ b₂ m₁ m₂ w₁ w₂ : List ℕ) where
  pub local_byte_edit : w₁ ≡ bytes_after d b₁ m₁ → w₂ ≡ bytes_after d b₂ m₂ → LocalByteEdit d b₁ b₂ m₁ m₂ w₁ w₂
  local_byte_edit p q g k hg hk a₁ a₂ e h₁ h₂ = rw (p, q) (demand3.byte_edits.local d b₁ b₂ m₁ m₂ g k hg hk a₁ a₂ e h₁ h₂)

  module _ (r₁ r₂ : Answer) where
    pub same_byte_order : w₁ ≡ bytes_after d b₁ m₁ → w₂ ≡ bytes_after d b₂ m₂ → r₁ ≡ byte_answer d b₁ (length m₁) → r₂ ≡ byte_answer d b₂ (length m₂)
        → SameByteOrder d b₁ b₂ m₁ m₂ w₁ w₂ r₁ r₂
    same_byte_order p q u v a o e =
        record {
          memories = rw (p, q, e) (demand3.byte_orders.memories d b₁ b₂ m₂ a o);
          answers = rw (u, v, e) (demand3.byte_orders.answers d b₁ b₂ (length m₂) a o);
        }
