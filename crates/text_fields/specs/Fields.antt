-- The lengths of fields, and one more of them, as loops meet them.
use Rattle.std.specs.Prelude.{◌≡◌, List, [], ◌∷◌, ◌++◌, length}
use Rattle.std.proofs.Math.Path.{refl}
use Prim.Native.Nat.{ℕ, zero, suc, ◌+◌, ◌*◌, ◌≤◌}
use Rattle.std.proofs.Math.Numerals.{add-one}
use native.Mathlib.Omega.{arith}
use Rattle.std.proofs.Math.ListN.{length-append}
use Rattle.model.specs.Reading.{amount_in}
use Rattle.model.specs.Printed.{signed_decimal, amount_fields}
use Rattle.model.proofs.Digits.{signed_length}

module _ (w : List ℕ) where
  pub fields_none : (i : ℕ) → amount_fields w i 0 ≡ []
  unfolding amount_fields
  fields_none i = refl

  pub fields_more : (i n : ℕ) → amount_fields w i (n + 1) ≡ amount_fields w i n ++ 32 ∷ signed_decimal (amount_in w (i + 3 * n))
  unfolding amount_fields
  fields_more i n = rw add-one

  pub fields_length : (i n : ℕ) → length (amount_fields w i n) ≤ 22 * n
  unfolding amount_fields
  fields_length i zero = omega arith
  fields_length i (suc n) =
      omega (
        arith,
        fields_length i n,
        signed_length (amount_in w (i + 3 * n)),
        length-append (amount_fields w i n) (32 ∷ signed_decimal (amount_in w (i + 3 * n))),
      )
