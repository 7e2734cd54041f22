-- The contracts of a net short: as the machine tests a net, and what covering them leaves of it.
use Rattle.std.specs.Prelude.{◌≡◌, refl, true, false, List, ℕ, ◌-◌, ◌^◌, ◌≤◌, ◌<◌, ℤ, pos, negsuc, nat_abs}
use Rattle.std.proofs.Common.{ap, true≢false, arith, ltb-true, SFits}
use Rattle.std.specs.Int.Signed.{lt_z}
use Rattle.std.specs.Int.{w64}
use Rattle.model.specs.Limits.{contracts_limit}
use Rattle.model.specs.DayFile.{series_count}
use Rattle.model.specs.Netting.{position}
use Rattle.model.specs.Steps.Cover.{short_size, short_of, reduced}
use Rattle.classes.specs.Tables.{entry, Given}
use Rattle.classes.specs.Sizes.{net-size}

pub short_below : (z : ℤ) → lt_z z (pos 0) ≡ true → 0 ≡ short_size z
short_below (pos n) e = let h = ltb-true n 0 e in absurd (omega arith)
short_below (negsuc n) e = refl

pub short-not : (z : ℤ) → lt_z z (pos 0) ≡ false → nat_abs z ≡ short_size z
short-not (pos n) e = refl
short-not (negsuc n) e = absurd (true≢false e)

pub not_small : (z : ℤ) → SFits w64 z → lt_z z (pos 0) ≡ false → nat_abs z < 2 ^ 63
not_small (pos n) f e = f.sfits
not_small (negsuc n) f e = absurd (true≢false e)

-- no contracts: whatever is covered, the net remains
pub none-reduced : (z : ℤ) (k : ℕ) → short_size z ≡ 0 → z ≡ reduced z k
none-reduced (pos n) k e = ap pos (omega arith)
none-reduced (negsuc n) k e = refl

-- some contracts: the net is short
pub some_reduced : (z : ℤ) (k : ℕ) → (short_size z ≡ 0 → ⊥) → pos (short_size z - k) ≡ reduced z k
some_reduced (pos n) k h = refl
some_reduced (negsuc n) k h = absurd (h refl)

short_abs : (z : ℤ) → short_size z ≤ nat_abs z
short_abs (pos n) = omega arith
short_abs (negsuc n) = omega arith

pub short_limit : (d : List ℕ) (nets : List ℤ) → Given d nets → (s : ℕ) → s < series_count d → short_of d (entry nets) s ≤ contracts_limit
short_limit d nets w s h = omega (arith, short_abs (entry nets (position 0 0 s)), net-size d nets w 0 0 s (omega arith) (omega arith) h)
