-- The map of a book, one group more.
use Rattle.std.specs.Prelude.{◌≡◌, Bool, cond, ℕ, ◌+◌, ◌*◌, ◌^◌}
use Rattle.std.proofs.Math.Nat.{two-pow-succ}
use Rattle.std.proofs.Common.{add-one, arith}
use Rattle.numbers.specs.Maps.{map_below}

pub map_more : (t : ℕ → Bool) (g m p : ℕ) (b : Bool) → m ≡ map_below t g → p ≡ 2 ^ g → b ≡ t g → m + cond b p 0 ≡ map_below t (g + 1)
unfolding map_below
map_more t g m p b e q r = rw (e, q, r, add-one)

pub power_more : (g p : ℕ) → p ≡ 2 ^ g → p * 2 ≡ 2 ^ (g + 1)
power_more g p e = rw (add-one, two-pow-succ, e) (omega arith)
