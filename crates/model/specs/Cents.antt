-- U11: a batch whose DVP amounts are in euro cents, the edition of an older back office, and the conversion to and from it. Words in quotes are the request's.
use Rattle.std.specs.Prelude.{Bool, List, ◌∷◌, ℕ, ◌+◌, ◌-◌, ◌^◌, eqb, ℤ, pos, ◌*ℤ◌}
use Rattle.std.specs.Int.Signed.{quot_z}
use Rattle.numbers.specs.Definitions.{joined, tabulate}
use Rattle.model.specs.Words.{payload, bits, amount_words}
use Rattle.model.specs.Batch.{batch_header, record_count, headed, record_word, dvp_amount}

-- "sets bit 28 of the batch header": whether it is set, what it counts, the batch with it and without
abbrev pub is_in_cents : List ℕ → Bool
is_in_cents b = eqb (bits (payload (batch_header b)) 28 1) 1

abbrev pub cents_bit : ℕ
cents_bit = 2 ^ 28

abbrev pub marked : List ℕ → List ℕ
marked b = headed (batch_header b + cents_bit) b

abbrev pub unmarked : List ℕ → List ℕ
unmarked b = headed (batch_header b - cents_bit) b

-- a cent, in ten-thousandths of a euro
abbrev pub cent : ℕ
cent = 100

-- record r with amount z: its key and its quantities stay
abbrev pub record_with : List ℕ → ℕ → ℤ → List ℕ
record_with b r z = record_word b r 0 ∷ record_word b r 1 ∷ record_word b r 2 ∷ amount_words z

-- "other words stay": the batch with amount f z for each amount z
unfoldable pub with_amounts : (ℤ → ℤ) → List ℕ → List ℕ
with_amounts f b = batch_header b ∷ joined (tabulate (record_count b) (λ r. record_with b r (f (dvp_amount b r))))

-- a batch in cents, its amounts being multiples of a cent; and one in cents in ten-thousandths of a euro
abbrev pub to_cents : List ℕ → List ℕ
to_cents b = marked (with_amounts (λ z. quot_z z (pos cent)) b)

abbrev pub from_cents : List ℕ → List ℕ
from_cents b = with_amounts (λ z. z *ℤ pos cent) (unmarked b)
