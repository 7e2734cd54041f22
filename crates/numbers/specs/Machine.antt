-- What the machine makes of i64s by + − and ×, where what they hold is known and small: the result fits, and is the exact one.
use Rattle.std.specs.Prelude.{◌≡◌, ℕ, ◌+◌, ◌*◌, ◌^◌, ◌<◌, ◌≤◌, ℤ, nat_abs, ◌+ℤ◌, ◌-ℤ◌, ◌*ℤ◌}
use Rattle.std.proofs.Common.{arith, rules, SFits, to_z, of_z}
use Rattle.std.specs.Int.{w64}
use Rattle.std.specs.Int.{int_max, int_min}
use Rattle.numbers.specs.Extremes.{max_z, min_z}
use Rattle.numbers.specs.Abs.{back, fits_by, nat_abs-+, nat_abs--, nat_abs-*_le}

-- an i64 as the machine reads it
abbrev pub i64_of : ℤ → ℤ
i64_of x = to_z w64 (of_z w64 x)

module _ {x y u v : ℤ} (p : x ≡ u) (q : y ≡ v) where
  module _ (h : nat_abs u + nat_abs v < 2 ^ 63) where
    both : i64_of x +ℤ i64_of y ≡ u +ℤ v
    both = λ i. back p (omega arith) i +ℤ back q (omega arith) i

    apart : i64_of x -ℤ i64_of y ≡ u -ℤ v
    apart = λ i. back p (omega arith) i -ℤ back q (omega arith) i

    pub add_fits : SFits w64 (i64_of x +ℤ i64_of y)
    add_fits = fits_by both (omega (arith, nat_abs-+ u v))

    pub add_is : i64_of (i64_of x +ℤ i64_of y) ≡ u +ℤ v
    add_is = back both (omega (arith, nat_abs-+ u v))

    pub sub_fits : SFits w64 (i64_of x -ℤ i64_of y)
    sub_fits = fits_by apart (omega (arith, nat_abs-- u v))

    pub sub_is : i64_of (i64_of x -ℤ i64_of y) ≡ u -ℤ v
    sub_is = back apart (omega (arith, nat_abs-- u v))

  module _ (a b : ℕ) (h : nat_abs u ≤ a) (k : nat_abs v ≤ b) (la : a < 2 ^ 63) (lb : b < 2 ^ 63) (l : a * b < 2 ^ 63) where
    times : i64_of x *ℤ i64_of y ≡ u *ℤ v
    times = λ i. back p (omega arith) i *ℤ back q (omega arith) i

    pub mul_fits : SFits w64 (i64_of x *ℤ i64_of y)
    mul_fits = fits_by times (omega (arith, nat_abs-*_le u v a b h k))

    pub mul_is : i64_of (i64_of x *ℤ i64_of y) ≡ u *ℤ v
    mul_is = back times (omega (arith, nat_abs-*_le u v a b h k))

-- the library's larger and smaller of two are the model's
pub max_is : (x y : ℤ) → int_max x y ≡ max_z x y
max_is x y = search rules

pub min_is : (x y : ℤ) → int_min x y ≡ min_z x y
min_is x y = search rules
