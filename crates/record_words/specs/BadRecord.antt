-- A record with a word that row 22, 27 or 28 refuses. Of one that is not bad they refuse none.
use Rattle.std.specs.Prelude.{◌≡◌, Bool, false, not, ◌&&◌, ◌||◌, List, ℕ, ◌+◌, ◌≤◌, ◌<◌, ltb, eqb}
use Rattle.std.proofs.Common.{ap, ◌∙◌, arith}
use borrow.Author.Tests.{ltb-false, le-ltb}
use Rattle.numbers.specs.Scan.{first_bad, any_below, any_none, any_more, first_clear}
use Rattle.numbers.specs.Lists.{nothing_hit}
use Rattle.numbers.specs.Tests.{or_left, or_right, and_false}
use Rattle.model.specs.Limits.{dvp_amount_limit}
use Rattle.model.specs.Words.{kind, payload, bits, bad_word, magnitude, negative}
use Rattle.model.specs.Batch.{record_words, record_word, dvp_size}
use Rattle.model.specs.BatchChecks.{record_kind, record_limit, dvp_out_of_range, dvp_minus_zero, wrong_kind, out_of_range, minus_zero}

-- word j has a wrong kind or a payload above its limit
unfoldable pub bad_word_at : List ℕ → ℕ → ℕ → Bool
bad_word_at b r j = bad_word (record_word b r j) (record_kind j) (record_limit j)

-- the DVP amount's first word has a bit beside the sign's, or by its other two it is too large or minus zero
abbrev low_size : List ℕ → ℕ → ℕ
low_size b r = magnitude 0 (record_word b r 4) (record_word b r 5)

unfoldable pub bad_dvp : List ℕ → ℕ → Bool
bad_dvp b r =
    ltb 0 (bits (payload (record_word b r 3)) 0 28)
    || ltb dvp_amount_limit (low_size b r)
    || (eqb (negative (record_word b r 3)) 1 && eqb (low_size b r) 0)

unfoldable pub bad_record : List ℕ → ℕ → Bool
bad_record b r = any_below record_words (bad_word_at b r) || bad_dvp b r

-- the six words of a record, one after the other
pub any_word : (t : ℕ → Bool) → any_below record_words t ≡ (t 0 || t 1 || t 2 || t 3 || t 4 || t 5)
any_word t = more 5 _ (more 4 _ (more 3 _ (more 2 _ (more 1 _ (more 0 _ (any_none t))))))
  where
    more : (n : ℕ) (x : Bool) → any_below n t ≡ x → any_below (n + 1) t ≡ (x || t n)
    more n x e = any_more t n ∙ ap (λ (y : Bool). y || t n) e

-- ---- no row refuses a word of a record that is not bad

module _ (b : List ℕ) (r : ℕ) (h : bad_dvp b r ≡ false) where
  abbrev first : Bool
  first = ltb 0 (bits (payload (record_word b r 3)) 0 28)

  abbrev large : Bool
  large = ltb dvp_amount_limit (low_size b r)

  abbrev unsigned : Bool
  unsigned = eqb (negative (record_word b r 3)) 1 && eqb (low_size b r) 0

  sign_alone_lem : bits (payload (record_word b r 3)) 0 28 ≤ 0
  unfolding bad_dvp
  sign_alone_lem = ltb-false 0 (bits (payload (record_word b r 3)) 0 28) (or_left first large (or_left (first || large) unsigned h))

  -- the whole magnitude is in the other two words
  low : dvp_size b r ≡ low_size b r
  low = omega (arith, sign_alone_lem)

  dvp_in_range : dvp_out_of_range b r ≡ false
  unfolding bad_dvp dvp_out_of_range
  dvp_in_range =
      let z : bits (payload (record_word b r 3)) 5 23 ≤ 0 = omega (arith, sign_alone_lem) in
      rw (le-ltb 0 (bits (payload (record_word b r 3)) 5 23) z, low) (or_right first large (or_left (first || large) unsigned h))

  dvp_signed : dvp_minus_zero b r ≡ false
  unfolding bad_dvp dvp_minus_zero
  dvp_signed = rw low (or_right (first || large) unsigned h)

module _ (b : List ℕ) (r : ℕ) (h : bad_record b r ≡ false) where
  dvp : bad_dvp b r ≡ false
  unfolding bad_record
  dvp = or_right (any_below record_words (bad_word_at b r)) (bad_dvp b r) h

  word : (j : ℕ) → j < record_words → bad_word_at b r j ≡ false
  unfolding bad_record
  word =
      first_clear (bad_word_at b r) record_words
      (nothing_hit (first_bad (bad_word_at b r) record_words) (or_left (any_below record_words (bad_word_at b r)) (bad_dvp b r) h))

  pub right_kind : (j : ℕ) → j < record_words → wrong_kind b r j ≡ false
  unfolding bad_word_at wrong_kind
  right_kind j l = or_left (not (eqb (kind (record_word b r j)) (record_kind j))) (ltb (record_limit j) (payload (record_word b r j))) (word j l)

  pub in_range : (j : ℕ) → j < record_words → out_of_range b r j ≡ false
  unfolding bad_word_at out_of_range
  in_range j l =
      rw (or_right (not (eqb (kind (record_word b r j)) (record_kind j))) (ltb (record_limit j) (payload (record_word b r j))) (word j l), dvp_in_range b r dvp)
      (and_false (eqb j 3))

  pub no_minus-zero : (j : ℕ) → j < record_words → minus_zero b r j ≡ false
  unfolding minus_zero
  no_minus-zero j l = rw (dvp_signed b r dvp) (and_false (eqb j 3))
