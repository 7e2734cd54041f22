-- The lengths of the line count and the totals.
use Rattle.std.specs.Prelude.{◌≡◌, List, [], ◌∷◌, ◌++◌, ℕ, ◌+◌, ◌≤◌, length}
use Rattle.std.proofs.Common.{arith, length-append}
use Rattle.numbers.specs.Put.{put}
use Rattle.model.specs.Printed.{number_field, amount_fields, margin_head, total_head, count_text, totals_text}
use Rattle.model.proofs.Digits.{decimal-length}
use Rattle.text_fields.specs.Fields.{fields_length}

-- text from place 0 on ends at its length
pub from_front : (w l : List ℕ) {n : ℕ} {m : List ℕ} → (n ≡ 0 + length w) × (m ≡ put 0 w l) → (n ≡ length w) × (m ≡ put 0 w l)
from_front w l p = (omega (arith, p.0), p.1)

pub totals-length : (w : List ℕ) (i : ℕ) → length (totals_text w i) ≤ 72
unfolding totals_text
totals-length w i =
    omega (
      arith,
      fields_length w i 3,
      length-append (total_head ++ amount_fields w i 3) (10 ∷ []),
      length-append total_head (amount_fields w i 3),
    )

pub count-length : (n : ℕ) → length (count_text n) ≤ 28
unfolding count_text
count-length n =
    omega (arith, decimal-length n, length-append (margin_head ++ number_field n) (10 ∷ []), length-append margin_head (number_field n))
