-- Bytes by fours, as the library cuts them.
use Rattle.std.proofs.Common.{◌≡◌, ℕ, zero, suc, ◌/◌, ◌<◌, List, [], ◌∷◌, length, get_or, arith, w32}
use Rattle.std.specs.Int.{from_le_bytes}
use Rattle.std.specs.Simd.{first_chunks}
use Rattle.model.specs.Bytes.{words_of}

pub fours_at : (s : List ℕ) (n i : ℕ) → n ≡ length s / 4 → i < n → from_le_bytes w32 (get_or (first_chunks 4 n s) i []) ≡ get_or (words_of s) i 0
unfolding words_of
fours_at s zero i e h = absurd (omega arith)
fours_at [] (suc n) i e h = absurd (omega arith)
fours_at (a ∷ []) (suc n) i e h = absurd (omega arith)
fours_at (a ∷ b ∷ []) (suc n) i e h = absurd (omega arith)
fours_at (a ∷ b ∷ c ∷ []) (suc n) i e h = absurd (omega arith)
fours_at (a ∷ b ∷ c ∷ d ∷ s) (suc n) zero e h = omega arith
fours_at (a ∷ b ∷ c ∷ d ∷ s) (suc n) (suc i) e h = fours_at s n i (omega arith) (omega arith)
