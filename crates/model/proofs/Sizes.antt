-- The size of an amount is its magnitude, and fits 63 bits.
use mathlib.Core.Path.{◌≡◌, refl}
use mathlib.Core.Bool.{Bool, true, false, cond}
use Prim.Native.Nat.{ℕ, ◌^◌, ◌<◌}
use native.Mathlib.Omega.{arith}
use lib.Dec.{eqb}
use lib.IntN.{pos, neg_ℤ, nat_abs}
use Rattle.numbers.specs.Abs.{nat_abs-neg}
use Rattle.model.specs.Words.{magnitude, negative, amount}

signed : (t : Bool) (m : ℕ) → nat_abs (cond t (neg_ℤ (pos m)) (pos m)) ≡ m
signed true m = nat_abs-neg (pos m)
signed false m = refl

pub size-amount : (u v w : ℕ) → nat_abs (amount u v w) ≡ magnitude u v w
size-amount u v w = signed (eqb (negative u) 1) (magnitude u v w)

pub amount_small : (u v w : ℕ) → nat_abs (amount u v w) < 2 ^ 63
amount_small u v w = omega (arith, size-amount u v w)
