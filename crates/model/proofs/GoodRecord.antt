-- Rows 22 to 28 of a record by itself, w its six words: the rows of a batch's records are these of each, so they go by the list of records.
use Rattle.std.specs.Prelude.{◌≡◌, false, not, ◌&&◌, ◌||◌, Bool, ◌<◌, is_some}
use Rattle.std.proofs.Math.Path.{refl, sym, ap}
use Rattle.std.proofs.Common.{◌∙◌, arith}
use mathlib.Core.List.{List, ◌∷◌}
use Prim.Native.Nat.{ℕ, zero, suc}
use Rattle.std.proofs.Math.Dec.{eqb, ltb}
use Rattle.numbers.specs.Scan.{first_bad, any_below, first_clear, first-none}
use Rattle.numbers.specs.Lists.{any_of, hit_any, nothing_hit}
use Rattle.numbers.specs.Tests.{or_left, or_right}
use Rattle.model.specs.Words.{kind, payload}
use Rattle.model.specs.Batch.{record_count, record_words, record_word}
use Rattle.model.specs.BatchChecks.{record_kind, record_limit, dvp_out_of_range, dvp_minus_zero, wrong_kind, out_of_range, minus_zero, row22, row27, row28, row23, row24, row25, row26}
use Rattle.model.specs.Locality.{record_at, records}
use Rattle.model.proofs.Accepted.{RecordRows}
use Rattle.model.proofs.BatchWords.{words_clear, words_back}

-- ---- one record

pub record Good (d w : List ℕ) : Type 0 where
  pub kinds : (j : ℕ) → j < record_words → wrong_kind (0 ∷ w) 0 j ≡ false
  pub ranges : (j : ℕ) → j < record_words → out_of_range (0 ∷ w) 0 j ≡ false
  pub signs : (j : ℕ) → j < record_words → minus_zero (0 ∷ w) 0 j ≡ false
  pub at23 : row23 d (0 ∷ w) 0 ≡ false
  pub at24 : row24 d (0 ∷ w) 0 ≡ false
  pub at25 : row25 d (0 ∷ w) 0 ≡ false
  pub at26 : row26 d (0 ∷ w) 0 ≡ false

-- the same as a test
module _ (d w : List ℕ) where
  abbrev bad_word : ℕ → Bool
  bad_word j = wrong_kind (0 ∷ w) 0 j || (out_of_range (0 ∷ w) 0 j || minus_zero (0 ∷ w) 0 j)

  abbrev bad_position : Bool
  bad_position = row23 d (0 ∷ w) 0 || (row24 d (0 ∷ w) 0 || (row25 d (0 ∷ w) 0 || row26 d (0 ∷ w) 0))

  abbrev pub bad : Bool
  bad = any_below record_words bad_word || bad_position

  pub good_of : bad ≡ false → Good d w
  good_of e =
      let words = first_clear bad_word record_words (nothing_hit (first_bad bad_word record_words) (or_left (any_below record_words bad_word) bad_position e)) in
      let p = or_right (any_below record_words bad_word) bad_position e in
      let q = or_right (row23 d (0 ∷ w) 0) _ p in
      let r = or_right (row24 d (0 ∷ w) 0) _ q in
      record {
        kinds = λ j h. or_left (wrong_kind (0 ∷ w) 0 j) _ (words j h);
        ranges = λ j h. or_left (out_of_range (0 ∷ w) 0 j) (minus_zero (0 ∷ w) 0 j) (or_right (wrong_kind (0 ∷ w) 0 j) _ (words j h));
        signs = λ j h. or_right (out_of_range (0 ∷ w) 0 j) (minus_zero (0 ∷ w) 0 j) (or_right (wrong_kind (0 ∷ w) 0 j) _ (words j h));
        at23 = or_left (row23 d (0 ∷ w) 0) _ p;
        at24 = or_left (row24 d (0 ∷ w) 0) _ q;
        at25 = or_left (row25 d (0 ∷ w) 0) (row26 d (0 ∷ w) 0) r;
        at26 = or_right (row25 d (0 ∷ w) 0) (row26 d (0 ∷ w) 0) r;
      }

  pub not_bad : Good d w → bad ≡ false
  not_bad g =
      let none : (j : ℕ) → j < record_words → bad_word j ≡ false = λ j h. rw (g.kinds j h, g.ranges j h, g.signs j h) in
      rw (first-none bad_word record_words none, g.at23, g.at24, g.at25, g.at26)

-- ---- those of a batch

-- a record by itself has its words
own_word : (b : List ℕ) (r j : ℕ) → j < record_words → record_word (0 ∷ record_at b r) 0 j ≡ record_word b r j
own_word b r zero h = refl
own_word b r (suc zero) h = refl
own_word b r (suc (suc zero)) h = refl
own_word b r (suc (suc (suc zero))) h = refl
own_word b r (suc (suc (suc (suc zero)))) h = refl
own_word b r (suc (suc (suc (suc (suc zero))))) h = refl
own_word b r (suc (suc (suc (suc (suc (suc j)))))) h = absurd (omega arith)

-- a test that fails at every record fails in the list of them, and back
module _ (t : List ℕ → Bool) (b : List ℕ) where
  pub in_list : ((r : ℕ) → r < record_count b → t (record_at b r) ≡ false) → any_of t (records b) ≡ false
  in_list h = sym (hit_any t (record_count b) (record_at b)) ∙ ap is_some (first-none (λ r. t (record_at b r)) (record_count b) h)

  pub of_list : any_of t (records b) ≡ false → (r : ℕ) → r < record_count b → t (record_at b r) ≡ false
  of_list e =
      first_clear (λ r. t (record_at b r)) (record_count b)
      (nothing_hit (first_bad (λ r. t (record_at b r)) (record_count b)) (hit_any t (record_count b) (record_at b) ∙ e))

-- the tests of word j of record r read that record alone
module _ (b : List ℕ) where
  pub own_kind : (r j : ℕ) → j < record_words → wrong_kind (0 ∷ record_at b r) 0 j ≡ wrong_kind b r j
  unfolding wrong_kind
  own_kind r j h = ap (λ w. not (eqb (kind w) (record_kind j))) (own_word b r j h)

  pub own_range : (r j : ℕ) → j < record_words → out_of_range (0 ∷ record_at b r) 0 j ≡ out_of_range b r j
  unfolding out_of_range dvp_out_of_range
  own_range r j h = ap (λ w. ltb (record_limit j) (payload w) || (eqb j 3 && dvp_out_of_range b r)) (own_word b r j h)

  pub own_sign : (r j : ℕ) → minus_zero (0 ∷ record_at b r) 0 j ≡ minus_zero b r j
  unfolding minus_zero dvp_minus_zero
  own_sign r j = refl

module _ (d b : List ℕ) where
  pub rows_good : RecordRows d b → (r : ℕ) → r < record_count b → Good d (record_at b r)
  unfolding row22 row27 row28 row23 row24 row25 row26
  rows_good rows r h =
      record {
        kinds = λ j l. own_kind b r j l ∙ words_clear (wrong_kind b) (record_count b) rows.at22 r j h l;
        ranges = λ j l. own_range b r j l ∙ words_clear (out_of_range b) (record_count b) rows.at27 r j h l;
        signs = λ j l. own_sign b r j ∙ words_clear (minus_zero b) (record_count b) rows.at28 r j h l;
        at23 = rows.at23 r h;
        at24 = rows.at24 r h;
        at25 = rows.at25 r h;
        at26 = rows.at26 r h;
      }

  pub good_rows : ((r : ℕ) → r < record_count b → Good d (record_at b r)) → RecordRows d b
  unfolding row22 row27 row28 row23 row24 row25 row26
  good_rows g =
      record {
        at22 = words_back (wrong_kind b) (record_count b) (λ r j l q. sym (own_kind b r j q) ∙ (g r l).kinds j q);
        at27 = words_back (out_of_range b) (record_count b) (λ r j l q. sym (own_range b r j q) ∙ (g r l).ranges j q);
        at28 = words_back (minus_zero b) (record_count b) (λ r j l q. sym (own_sign b r j) ∙ (g r l).signs j q);
        at23 = λ r l. (g r l).at23;
        at24 = λ r l. (g r l).at24;
        at25 = λ r l. (g r l).at25;
        at26 = λ r l. (g r l).at26;
      }

  pub rows_list : RecordRows d b → any_of (bad d) (records b) ≡ false
  rows_list rows = in_list (bad d) b (λ r h. not_bad d (record_at b r) (rows_good rows r h))

  pub list_rows : any_of (bad d) (records b) ≡ false → RecordRows d b
  list_rows e = good_rows (λ r h. good_of d (record_at b r) (of_list (bad d) b e r h))
