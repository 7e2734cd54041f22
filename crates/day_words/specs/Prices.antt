-- A price's word as a number from the word of price 0 on.
use Rattle.std.specs.Prelude.{◌≡◌, Bool, true, ℕ, ◌-◌, ◌≤◌, ◌<◌, ltb}
use Rattle.std.proofs.Common.{ap, ◌∙◌, arith, eq-eqb, ne_eqb, lt-ltb}
use Rattle.std.proofs.Math.Decide.{dec_le}
use Rattle.model.specs.Limits.{price_limit}
use Rattle.model.specs.Words.{kind, payload, word, bad_price}

-- the word of price 0: kind 3
abbrev pub zero_price : ℕ
zero_price = word 3 0

-- a word below it has a lower kind
pub below_price : (w : ℕ) → w < zero_price → true ≡ bad_price w
below_price w h = rw (ne_eqb (kind w) 3 (λ e. absurd (omega (arith, e))))

-- what is above it is the payload of kind 3, or too large for any price
pub from_price : (w : ℕ) (r : Bool) → zero_price ≤ w → r ≡ ltb price_limit (w - zero_price) → r ≡ bad_price w
from_price w r h q = q ∙ by (dec_le (kind w) 3)
  where
    by : Dec (kind w ≤ 3) → ltb price_limit (w - zero_price) ≡ bad_price w
    by (yes p) =
        let e : kind w ≡ 3 = omega arith in
        let z : w - zero_price ≡ payload w = omega (arith, e) in
        rw (eq-eqb (kind w) 3 e) (ap (ltb price_limit) z)
    by (no p) =
        let l : price_limit < w - zero_price = omega arith in
        rw (ne_eqb (kind w) 3 (λ e. absurd (omega (arith, e))), lt-ltb price_limit (w - zero_price) l)
