-- The record written for a position: key and net read back from it; and of any key, quantities and amount within its limits the words pass rows 22, 27 and 28.
use Rattle.std.specs.Prelude.{◌≡◌, Bool, ◌&&◌, cond, List, ◌∷◌, ℕ, zero, suc, ◌+◌, ◌/◌, ◌%◌, ◌^◌, ◌≤◌, ◌<◌, leb, ℤ, pos, negsuc, ◌-ℤ◌}
use Rattle.std.proofs.Math.Path.{refl, sym, ap}
use Rattle.std.proofs.Common.{◌∙◌, arith}
use Rattle.std.proofs.Math.Bool.{true, false, not}
use borrow.Author.Tests.{eq-eqb, eqb-true, ne_eqb, le-ltb}
use Rattle.std.proofs.Math.Dec.{eqb}
use Rattle.std.proofs.Math.IntN.{nat_abs, +ℤ_idl, +ℤ_idr}
use Rattle.numbers.specs.Tests.{and_false}
use Rattle.model.specs.Limits.{quantity_limit, dvp_amount_limit}
use Rattle.model.specs.Words.{kind, payload, payload_limit, bits, word, magnitude, negative, sign_bit, high_word, middle_word, low_word}
use Rattle.model.specs.Batch.{record_words, record_word, position_record}
use Rattle.model.specs.BatchChecks.{record_kind, key_limit, record_limit, dvp_out_of_range, dvp_minus_zero, wrong_kind, out_of_range, minus_zero}
use Rattle.model.specs.Netting.{position_count}
use Rattle.model.specs.Rewriting.{long_of, short_of}
use Rattle.model.proofs.Sizes.{size-amount}
use Rattle.model.proofs.WordsBack.{payload-word, amount_back, no_minus-zero}

-- ---- read back

pub key_read : (p : ℕ) → p < position_count → bits (payload (word 2 p)) 0 10 ≡ p
key_read p h = omega arith

pub net_read : (x : ℤ) → nat_abs x ≤ quantity_limit → pos (payload (word 4 (short_of x))) -ℤ pos (payload (word 4 (long_of x))) ≡ x
net_read (pos n) h = rw (payload-word 4 n (omega arith)) (+ℤ_idr (pos n))
net_read (negsuc n) h = rw (payload-word 4 (suc n) (omega arith)) (+ℤ_idl (negsuc n))

-- ---- its words

pub quantities : (x : ℤ) → nat_abs x ≤ quantity_limit → (long_of x ≤ quantity_limit) × (short_of x ≤ quantity_limit)
quantities (pos n) h = (omega arith, h)
quantities (negsuc n) h = (h, omega arith)

high_limit : (z : ℤ) → nat_abs z ≤ dvp_amount_limit → sign_bit z + nat_abs z / 2 ^ 58 ≤ payload_limit
high_limit (pos n) h = omega arith
high_limit (negsuc n) h = omega arith

no_spare : (z : ℤ) → nat_abs z ≤ dvp_amount_limit → bits (payload (high_word z)) 5 23 ≡ 0
no_spare (pos n) h = omega arith
no_spare (negsuc n) h = omega arith

-- every limit is a payload's
limited : (j : ℕ) → record_limit j ≤ payload_limit
limited j = by (eqb j 0) (leb j 2)
  where
    by : (s t : Bool) → cond s key_limit (cond t quantity_limit payload_limit) ≤ payload_limit
    by true t = omega arith
    by false true = omega arith
    by false false = omega arith

-- of a key, quantities and an amount within a record's limits
module _ (p l s : ℕ) (z : ℤ) (hp : p ≤ key_limit) (hl : l ≤ quantity_limit) (hs : s ≤ quantity_limit) (hz : nat_abs z ≤ dvp_amount_limit) where
  -- their record by itself
  abbrev alone : List ℕ
  alone = 0 ∷ position_record p l s z

  -- word j has its kind and is within its limit
  word_is : (j : ℕ) → j < record_words → (q : ℕ) × (record_word alone 0 j ≡ word (record_kind j) q) × (q ≤ record_limit j)
  word_is zero h = (p, refl, hp)
  word_is (suc zero) h = (l, refl, hl)
  word_is (suc (suc zero)) h = (s, refl, hs)
  word_is (suc (suc (suc zero))) h = (sign_bit z + nat_abs z / 2 ^ 58, refl, high_limit z hz)
  word_is (suc (suc (suc (suc zero)))) h = (nat_abs z / 2 ^ 29 % 2 ^ 29, refl, omega arith)
  word_is (suc (suc (suc (suc (suc zero))))) h = (nat_abs z % 2 ^ 29, refl, omega arith)
  word_is (suc (suc (suc (suc (suc (suc j)))))) h = absurd (omega arith)

  pub kinds_right : (j : ℕ) → j < record_words → wrong_kind alone 0 j ≡ false
  unfolding wrong_kind
  kinds_right j h =
      let w = word_is j h in
      ap not (eq-eqb (kind (record_word alone 0 j)) (record_kind j) (ap kind w.1 ∙ omega (arith, w.2, limited j)))

  -- the magnitude of its DVP amount
  abbrev size : ℕ
  size = magnitude (high_word z) (middle_word z) (low_word z)

  dvp_in_range : dvp_out_of_range alone 0 ≡ false
  unfolding dvp_out_of_range
  dvp_in_range =
      let e : size ≡ nat_abs z = sym (size-amount (high_word z) (middle_word z) (low_word z)) ∙ ap nat_abs (amount_back z (omega arith)) in
      rw (no_spare z hz) (le-ltb dvp_amount_limit size (omega arith))

  pub ranges_right : (j : ℕ) → j < record_words → out_of_range alone 0 j ≡ false
  unfolding out_of_range
  ranges_right j h =
      let w = word_is j h in
      let e : payload (record_word alone 0 j) ≤ record_limit j = rw w.1 (omega (arith, w.2, limited j)) in
      rw (le-ltb (record_limit j) (payload (record_word alone 0 j)) e, dvp_in_range) (and_false (eqb j 3))

  dvp_signed : dvp_minus_zero alone 0 ≡ false
  unfolding dvp_minus_zero
  dvp_signed = by (eqb (negative (high_word z)) 1) refl
    where
      by : (t : Bool) → eqb (negative (high_word z)) 1 ≡ t → (t && eqb size 0) ≡ false
      by true e = ne_eqb size 0 (λ q. omega (arith, no_minus-zero z (omega arith) (eqb-true (negative (high_word z)) 1 e)))
      by false e = refl

  pub signs_right : (j : ℕ) → minus_zero alone 0 j ≡ false
  unfolding minus_zero
  signs_right j = rw dvp_signed (and_false (eqb j 3))
