-- A batch converted to cents and from cents (U11): the rows of the other way pass, and the words come back.
use Rattle.std.specs.Prelude.{◌≡◌, true, not, List, [], ◌∷◌, ℕ, ◌+◌, ◌*◌, ◌%◌, ◌^◌, ◌≤◌, ◌<◌, ℤ, pos, ◌*ℤ◌, nat_abs, length, Ok}
use Rattle.std.specs.Int.Signed.{quot_z}
use Rattle.std.proofs.Math.Path.{refl, sym, ap}
use Rattle.std.proofs.Common.{◌∙◌, subst, arith, eq-eqb, le-ltb}
use Rattle.numbers.specs.Abs.{nat_abs-*}
use Rattle.numbers.specs.Quot.{size-quot, quot_mul, mul_quot}
use Rattle.model.specs.declared.Check.TheVariants.{BatchHeader, BatchWords}
use Rattle.model.specs.declared.BatchHeaderFault.TheVariants.{BadBatchHeader}
use Rattle.model.specs.declared.BatchWordsFault.TheVariants.{NotWholeCents, CentsTooLarge}
use Rattle.model.specs.Limits.{cents_limit}
use Rattle.model.specs.Words.{payload, bits}
use Rattle.model.specs.Rows.{record_row}
use Rattle.model.specs.Batch.{batch_header, record_count, record_word, dvp_amount, dvp_size}
use Rattle.model.specs.BatchChecks.{batch_form}
use Rattle.model.specs.Cents.{is_in_cents, cents_bit, marked, unmarked, cent, with_amounts, to_cents, from_cents}
use Rattle.model.specs.CentsChecks.{row33, row34, to_cents_check, from_cents_check}
use Rattle.model.proofs.Accepted.{clear_back, plain_back}
use Rattle.model.proofs.Headed.{headed_header}
use Rattle.model.proofs.Cents.{form_to, whole_cents, header_from, form_from, within}
use Rattle.model.proofs.Limits.{form_count}
use Rattle.model.proofs.Sizes.{size-amount}
use Rattle.model.proofs.Verdicts.{◌then◌, tried_pass}
use Rattle.corollaries.specs.RightRecords.{size_limited}
use Rattle.corollaries.specs.OtherAmounts.{amounts_length, amounts_header, size_is, amounts_twice, right, amounts_same, still_form}
use Rattle.corollaries.specs.CentsClaims.{ToCents, FromCents}

-- ---- the header's bit

unmarked-marked : (c : List ℕ) → unmarked (marked c) ≡ c
unmarked-marked [] = refl
unmarked-marked (x ∷ l) = ap (λ (n : ℕ). n ∷ l) (omega arith)

marked-unmarked : (b : List ℕ) → cents_bit ≤ batch_header b → marked (unmarked b) ≡ b
marked-unmarked [] h = refl
marked-unmarked (x ∷ l) h = ap (λ (n : ℕ). n ∷ l) (omega (arith, h))

-- the amount in the other unit
abbrev pub cents : ℤ → ℤ
cents z = quot_z z (pos cent)

abbrev pub units : ℤ → ℤ
units z = z *ℤ pos cent

own_size : (b : List ℕ) (r : ℕ) → nat_abs (dvp_amount b r) ≡ dvp_size b r
own_size b r = size-amount (record_word b r 3) (record_word b r 4) (record_word b r 5)

-- ---- to cents

module _ (b : List ℕ) (e : ToCents b) where
  size_to : (r : ℕ) → r < record_count b → nat_abs (cents (dvp_amount b r)) ≤ cents_limit
  size_to r h = omega (arith, size-quot (dvp_amount b r) cent, own_size b r, size_limited b r (right b (form_to b e) r h))

  pub small_to : (r : ℕ) → r < record_count b → nat_abs (cents (dvp_amount b r)) < 2 ^ 63
  small_to r h = omega (arith, size_to r h)

  filled_to : 0 < length (with_amounts cents b)
  filled_to = omega (arith, amounts_length cents b)

  pub header_to_lem : batch_header (to_cents b) ≡ batch_header b + cents_bit
  header_to_lem = headed_header (batch_header (with_amounts cents b) + cents_bit) (with_amounts cents b) filled_to ∙ ap (λ (h : ℕ). h + cents_bit) (amounts_header cents b)

  bit_to : is_in_cents (to_cents b) ≡ true
  bit_to = eq-eqb (bits (payload (batch_header (to_cents b))) 28 1) 1 (omega (arith, header_to_lem, form_count b (form_to b e)))

  pub back_passes_lem : FromCents (to_cents b)
  unfolding from_cents_check row34
  back_passes_lem =
      let c = with_amounts cents b in
      let u = unmarked-marked c in
      tried_pass _
      (plain_back (BatchHeader BadBatchHeader) _ (ap not bit_to)
      then (ap batch_form u ∙ still_form b (form_to b e) cents (λ r h. omega (arith, size_to r h)))
      then subst (λ (w : List ℕ). record_row (BatchWords CentsTooLarge) (row34 w) (record_count w) ≡ Ok tt) (sym u)
      (clear_back (BatchWords CentsTooLarge) (row34 c) (record_count c) (λ r h.
      let l : r < record_count b = omega (arith, h, ap payload (amounts_header cents b)) in
      le-ltb cents_limit (dvp_size c r) (omega (arith, size_is cents b r l (small_to r l), size_to r l))))
      then tt)

  pub back_lem : from_cents (to_cents b) ≡ b
  back_lem =
      ap (with_amounts units) (unmarked-marked (with_amounts cents b))
      ∙ amounts_twice cents units b small_to
      ∙ amounts_same b (form_to b e) (λ z. units (cents z)) (λ r h. quot_mul cent (dvp_amount b r) (omega (arith, own_size b r, whole_cents b e r h)))

-- ---- from cents

module _ (b : List ℕ) (e : FromCents b) where
  size_from : (r : ℕ) → nat_abs (units (dvp_amount (unmarked b) r)) ≡ dvp_size (unmarked b) r * cent
  size_from r = nat_abs-* (dvp_amount (unmarked b) r) (pos cent) ∙ ap (λ (n : ℕ). n * cent) (own_size (unmarked b) r)

  pub small_from : (r : ℕ) → r < record_count (unmarked b) → nat_abs (units (dvp_amount (unmarked b) r)) < 2 ^ 63
  small_from r h = omega (arith, size_from r, within b e r h)

  pub again_passes_lem : ToCents (from_cents b)
  unfolding to_cents_check row33
  again_passes_lem =
      let u = unmarked b in
      let c = from_cents b in
      tried_pass _
      (still_form u (form_from b e) units (λ r h. omega (arith, size_from r, within b e r h))
      then clear_back (BatchWords NotWholeCents) (row33 c) (record_count c) (λ r h.
      let l : r < record_count u = omega (arith, h, ap payload (amounts_header units u)) in
      le-ltb 0 (dvp_size c r % cent) (omega (arith, size_is units u r l (small_from r l), size_from r)))
      then tt)

  pub again_lem : to_cents (from_cents b) ≡ b
  again_lem =
      ap marked
      (amounts_twice units cents (unmarked b) small_from
      ∙ amounts_same (unmarked b) (form_from b e) (λ z. cents (units z)) (λ r h. mul_quot cent (dvp_amount (unmarked b) r) (omega arith)))
      ∙ marked-unmarked b (header_from b e)
