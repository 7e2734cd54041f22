-- A record that rows 22, 27 and 28 pass: so does one with another amount within the limit, and its own amount is written again by its own words. w are the six words of a record.
use Rattle.std.specs.Prelude.{◌≡◌, false, ◌&&◌, Bool, true, cond, List, [], ◌∷◌, ℕ, zero, suc, ◌+◌, ◌*◌, ◌/◌, ◌%◌, ◌^◌, ◌≤◌, ◌<◌, ltb, eqb, ℤ, pos, negsuc, neg_ℤ, nat_abs, Ok}
use Rattle.std.proofs.Math.Path.{refl, sym, ap}
use Rattle.std.proofs.Common.{◌∙◌, arith, true≢false, eqb-true, eq-eqb, ltb-false}
use Rattle.std.proofs.lemmas.Bool.{not-false, eqb-false}
use Rattle.numbers.specs.Tests.{or_left, or_right}
use Rattle.model.specs.Limits.{dvp_amount_limit, quantity_limit}
use Rattle.model.specs.Words.{kind, payload, bits, word, negative, sign_bit, high_word, middle_word, low_word, amount_words}
use Rattle.model.specs.Batch.{record_words, record_word, position_record, dvp_amount, dvp_size}
use Rattle.model.specs.BatchChecks.{record_kind, record_limit, key_limit, dvp_out_of_range, dvp_minus_zero, wrong_kind, out_of_range, minus_zero, row22, row27, row28, words_check}
use Rattle.model.specs.Cents.{record_with}
use Rattle.model.specs.Locality.{record_at}
use Rattle.model.proofs.Accepted.{clear, clear_back}
use Rattle.model.proofs.BatchWords.{words_clear, words_back}
use Rattle.model.proofs.GoodRecord.{own_kind, own_range, own_sign}
use Rattle.model.proofs.Verdicts.{◌then◌, tried-passed, tried_pass}
use Rattle.corollaries.specs.PositionRecord.{kinds_right, ranges_right, signs_right}

pub record Right (w : List ℕ) : Type 0 where
  pub kinds : (j : ℕ) → j < record_words → wrong_kind (0 ∷ w) 0 j ≡ false
  pub ranges : (j : ℕ) → j < record_words → out_of_range (0 ∷ w) 0 j ≡ false
  pub signs : (j : ℕ) → j < record_words → minus_zero (0 ∷ w) 0 j ≡ false

-- ---- those of a batch, n of them

module _ (b : List ℕ) (n : ℕ) where
  pub all_right : words_check b n ≡ Ok tt → (r : ℕ) → r < n → Right (record_at b r)
  unfolding row22 row27 row28
  all_right e r h =
      let rows = tried-passed _ e in
      record {
        kinds = λ j q. own_kind b r j q ∙ words_clear (wrong_kind b) n (clear _ _ _ rows.0) r j h q;
        ranges = λ j q. own_range b r j q ∙ words_clear (out_of_range b) n (clear _ _ _ rows.1.0) r j h q;
        signs = λ j q. own_sign b r j ∙ words_clear (minus_zero b) n (clear _ _ _ rows.1.1.0) r j h q;
      }

  pub right_all : ((r : ℕ) → r < n → Right (record_at b r)) → words_check b n ≡ Ok tt
  unfolding row22 row27 row28
  right_all g =
      tried_pass _
      (clear_back _ _ _ (words_back (wrong_kind b) n (λ r j h q. sym (own_kind b r j q) ∙ (g r h).kinds j q))
      then clear_back _ _ _ (words_back (out_of_range b) n (λ r j h q. sym (own_range b r j q) ∙ (g r h).ranges j q))
      then clear_back _ _ _ (words_back (minus_zero b) n (λ r j h q. sym (own_sign b r j) ∙ (g r h).signs j q))
      then tt)

-- ---- the words of one

module _ (b : List ℕ) (r : ℕ) (g : Right (record_at b r)) where
  kind_is : (j : ℕ) → j < record_words → kind (record_word b r j) ≡ record_kind j
  unfolding wrong_kind
  kind_is j h = eqb-true (kind (record_word b r j)) (record_kind j) (not-false (eqb (kind (record_word b r j)) (record_kind j)) (sym (own_kind b r j h) ∙ g.kinds j h))

  in_range : (j : ℕ) → j < record_words → out_of_range b r j ≡ false
  in_range j h = sym (own_range b r j h) ∙ g.ranges j h

  limit_is : (j : ℕ) → j < record_words → payload (record_word b r j) ≤ record_limit j
  unfolding out_of_range
  limit_is j h = ltb-false (record_limit j) (payload (record_word b r j)) (or_left (ltb (record_limit j) (payload (record_word b r j))) (eqb j 3 && dvp_out_of_range b r) (in_range j h))

  -- the amount has no spare bit and is within its limit
  dvp_limited : dvp_out_of_range b r ≡ false
  unfolding out_of_range
  dvp_limited = or_right (ltb (record_limit 3) (payload (record_word b r 3))) (dvp_out_of_range b r) (in_range 3 (omega arith))

  no_spare : bits (payload (record_word b r 3)) 5 23 ≤ 0
  unfolding dvp_out_of_range
  no_spare = ltb-false 0 (bits (payload (record_word b r 3)) 5 23) (or_left (ltb 0 (bits (payload (record_word b r 3)) 5 23)) (ltb dvp_amount_limit (dvp_size b r)) dvp_limited)

  pub size_limited : dvp_size b r ≤ dvp_amount_limit
  unfolding dvp_out_of_range
  size_limited = ltb-false dvp_amount_limit (dvp_size b r) (or_right (ltb 0 (bits (payload (record_word b r 3)) 5 23)) (ltb dvp_amount_limit (dvp_size b r)) dvp_limited)

  signed : (eqb (negative (record_word b r 3)) 1 && eqb (dvp_size b r) 0) ≡ false
  unfolding minus_zero dvp_minus_zero
  signed = sym (own_sign b r 3) ∙ g.signs 3 (omega arith)

  -- with another amount it is the record written for its key, its quantities and that amount
  with_is : (z : ℤ) → record_with b r z ≡ position_record (payload (record_word b r 0)) (payload (record_word b r 1)) (payload (record_word b r 2)) z
  with_is z =
      let a : record_word b r 0 ≡ word 2 (payload (record_word b r 0)) = omega (arith, kind_is 0 (omega arith)) in
      let c : record_word b r 1 ≡ word 4 (payload (record_word b r 1)) = omega (arith, kind_is 1 (omega arith)) in
      let d : record_word b r 2 ≡ word 4 (payload (record_word b r 2)) = omega (arith, kind_is 2 (omega arith)) in
      λ i. a i ∷ c i ∷ d i ∷ amount_words z

  pub with_right : (z : ℤ) → nat_abs z ≤ dvp_amount_limit → Right (record_with b r z)
  with_right z h =
      let p = payload (record_word b r 0) in
      let l = payload (record_word b r 1) in
      let s = payload (record_word b r 2) in
      let hp : p ≤ key_limit = limit_is 0 (omega arith) in
      let hl : l ≤ quantity_limit = limit_is 1 (omega arith) in
      let hs : s ≤ quantity_limit = limit_is 2 (omega arith) in
      rw (with_is z) (record { kinds = kinds_right p l s z hp hl hs h; ranges = ranges_right p l s z hp hl hs h; signs = λ j q. signs_right p l s z hp hl hs h j })

  -- ---- its own amount

  module _ (m : ℕ) (size : m ≡ dvp_size b r) where
    high_bits : payload (record_word b r 3) ≡ negative (record_word b r 3) * 2 ^ 28 + payload (record_word b r 3) % 2 ^ 5
    high_bits = omega (arith, no_spare)

    pieces : (m / 2 ^ 58 ≡ payload (record_word b r 3) % 2 ^ 5) × (m / 2 ^ 29 % 2 ^ 29 ≡ payload (record_word b r 4)) × (m % 2 ^ 29 ≡ payload (record_word b r 5))
    pieces = (omega (arith, size), omega (arith, size), omega (arith, size))

    words_by : (z : ℤ) → nat_abs z ≡ m → sign_bit z ≡ negative (record_word b r 3) * 2 ^ 28 → amount_words z ≡ record_word b r 3 ∷ record_word b r 4 ∷ record_word b r 5 ∷ []
    words_by z a s =
        let p = pieces in
        let u : high_word z ≡ record_word b r 3 = omega (arith, a, s, p.0, high_bits, kind_is 3 (omega arith)) in
        let v : middle_word z ≡ record_word b r 4 = omega (arith, a, p.1, kind_is 4 (omega arith)) in
        let w : low_word z ≡ record_word b r 5 = omega (arith, a, p.2, kind_is 5 (omega arith)) in
        λ i. u i ∷ v i ∷ w i ∷ []

  amount_again : amount_words (dvp_amount b r) ≡ record_word b r 3 ∷ record_word b r 4 ∷ record_word b r 5 ∷ []
  amount_again = by (eqb (negative (record_word b r 3)) 1) refl (dvp_size b r) refl
    where
      by : (t : Bool) → eqb (negative (record_word b r 3)) 1 ≡ t → (m : ℕ) → dvp_size b r ≡ m
          → amount_words (cond t (neg_ℤ (pos m)) (pos m)) ≡ record_word b r 3 ∷ record_word b r 4 ∷ record_word b r 5 ∷ []
      by true e zero q = absurd (true≢false (sym (λ i. e i && eq-eqb (dvp_size b r) 0 q i) ∙ signed))
      by true e (suc k) q = words_by (suc k) (sym q) (negsuc k) refl (omega (arith, eqb-true (negative (record_word b r 3)) 1 e))
      by false e m q = let o = eqb-false (negative (record_word b r 3)) 1 e in words_by m (sym q) (pos m) refl (omega arith)

  pub own_again : record_with b r (dvp_amount b r) ≡ record_at b r
  own_again = ap (λ (l : List ℕ). record_word b r 0 ∷ record_word b r 1 ∷ record_word b r 2 ∷ l) amount_again
