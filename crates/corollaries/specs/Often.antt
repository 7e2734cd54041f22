-- An edit and a reordering by counting: two batches have the same records left if and only if every record is left as often in the one as in the other.
use Rattle.std.specs.Prelude.{◌≡◌, ◌↔◌, ℕ}
use mathlib.Core.HLevel.{Discrete}
use mathlib.Core.List.{List, List-discrete, count, perm_iff_count, Perm}
use mathlib.Core.Nat
use Rattle.std.proofs.Math.Decide.{ℕ_discrete}
use Rattle.model.specs.Locality.{records, struck, Edit}

-- two records are the same or not, word for word
pub same_record : Discrete (List ℕ)
same_record = List-discrete ℕ_discrete

-- how often a record stands in a list
abbrev pub times_in : List ℕ → List (List ℕ) → mathlib.Core.Nat.ℕ
times_in r l = count same_record r l

pub edit_counts : (d : List ℕ) (g k : ℕ) (b₁ b₂ : List ℕ)
    → Edit d g k b₁ b₂ ↔ ((r : List ℕ) → times_in r (struck d g k b₁) ≡ times_in r (struck d g k b₂))
edit_counts d g k b₁ b₂ = perm_iff_count same_record {l₁ = struck d g k b₁} {l₂ = struck d g k b₂}

pub order_counts : (b₁ b₂ : List ℕ)
    → Perm (records b₁) (records b₂) ↔ ((r : List ℕ) → times_in r (records b₁) ≡ times_in r (records b₂))
order_counts b₁ b₂ = perm_iff_count same_record {l₁ = records b₁} {l₂ = records b₂}
