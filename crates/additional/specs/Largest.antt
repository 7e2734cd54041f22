-- The largest of some amounts, as a loop finds it.
use Rattle.std.specs.Prelude.{◌≡◌, refl, ℕ, suc, ◌+◌, ℤ, pos}
use Rattle.std.proofs.Common.{add-one}
use Rattle.numbers.specs.Extremes.{largest, max_z}

pub largest-none : (f : ℕ → ℤ) → pos 0 ≡ largest 0 f
unfolding largest
largest-none f = refl

largest-suc : (n : ℕ) (f : ℕ → ℤ) → max_z (largest n f) (f n) ≡ largest (suc n) f
unfolding largest
largest-suc n f = refl

pub largest_more : (n : ℕ) (f : ℕ → ℤ) → max_z (largest n f) (f n) ≡ largest (n + 1) f
largest_more n f = rw add-one (largest-suc n f)
