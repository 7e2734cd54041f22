-- The limits of the fields of accepted files.
use Rattle.std.specs.Prelude.{Ok, is_some}
use mathlib.Core.Path.{◌≡◌, sym, ap, ◌∙◌}
use mathlib.Core.Bool.{Bool, false, not, ◌&&◌, ◌||◌, cond}
use mathlib.Core.Logic.{◌≢◌}
use mathlib.Core.List.{List}
use Prim.Native.Nat.{ℕ, ◌+◌, ◌*◌, ◌-◌, ◌≤◌, ◌<◌}
use native.Mathlib.Omega.{arith}
use borrow.Author.Tests.{lt-ltb, le-ltb, ltb-false, leb-false, eqb-true, eqb-false, ne_eqb, not-false}
use lib.Dec.{leb, ltb, eqb}
use lib.IntN.{nat_abs}
use lib.ListN.{length}
use Rattle.numbers.specs.Scan.{first_bad, first_clear}
use Rattle.numbers.specs.Lists.{nothing_hit}
use Rattle.model.specs.Limits.{price_limit, quantity_limit, dvp_amount_limit, position_limit, most_records, group_count, whole_offset, point_count}
use Rattle.model.specs.Words.{kind, payload, payload_limit, bits, bad_word}
use Rattle.model.specs.DayFile.{class_count, series_count, class_words, series_words, day_words, class_word, series_word, group, underlying, spot_rate, non_spot_rate, offset, projected, multiplier, strike, closing, adjustment, theoretical}
use Rattle.model.specs.DayChecks.{bad_class_word, bad_series_word, bad_class, bad_series, row11, row12}
use Rattle.model.specs.Batch.{batch_header, record_count, record_words, batch_words, record_word, key, place, long, short, dvp_size, dvp_amount}
use Rattle.model.specs.BatchChecks.{record_limit, dvp_out_of_range, out_of_range, row20, row21, row27, row23, batch_form}
use Rattle.model.specs.Netting.{net, row30}
use Rattle.numbers.specs.Tests.{or_left, or_right}
use Rattle.model.specs.declared.Check.TheVariants.{BatchHeader, BatchLength}
use Rattle.model.specs.declared.BatchHeaderFault.TheVariants.{BadBatchHeader}
use Rattle.model.specs.declared.BatchLengthFault.TheVariants.{BadBatchLength}
use Rattle.model.proofs.Verdicts.{tried-passed}
use Rattle.model.proofs.Accepted.{plain_clear, DayRows, RecordRows, BatchChecks, BatchRows}
use Rattle.model.proofs.BatchWords.{words_clear}
use Rattle.model.proofs.Sizes.{size-amount}

-- a word that is not bad is within its limit
within : (w k l : ℕ) → bad_word w k l ≡ false → payload w ≤ l
within w k l e = ltb-false l (payload w) (or_right (not (eqb (kind w) k)) (ltb l (payload w)) e)

module _ (d : List ℕ) (r : DayRows d) where
  module _ (c : ℕ) (h : c < class_count d) where
    class_good : bad_class d c ≡ false
    unfolding row12
    class_good =
        ap (λ (t : Bool). cond t (bad_class d c) (bad_series d (c - class_count d))) (sym (lt-ltb c (class_count d) h))
        ∙ r.at12 c (omega arith)

    class_word_lem : (i : ℕ) → i < class_words → bad_class_word d c i ≡ false
    unfolding bad_class
    class_word_lem =
        first_clear (bad_class_word d c) class_words
        (nothing_hit (first_bad (bad_class_word d c) class_words) (or_left (is_some (first_bad (bad_class_word d c) class_words)) (leb group_count (group d c)) class_good))

    pub group_limit : group d c < group_count
    unfolding bad_class
    group_limit =
        leb-false group_count (group d c)
        (or_right (is_some (first_bad (bad_class_word d c) class_words)) (leb group_count (group d c)) class_good)

    pub class_price : (i : ℕ) → i < class_words → i ≢ 0 → i ≢ 9 → payload (class_word d c i) ≤ price_limit
    unfolding bad_class_word
    class_price i p q o = within (class_word d c i) 3 price_limit (rw (ne_eqb i 0 q, ne_eqb i 9 o) at (class_word_lem i p))

    pub underlying_limit : underlying d c ≤ price_limit
    underlying_limit = class_price 1 (omega arith) (λ z. omega arith) (λ z. omega arith)

    pub spot_rate_limit : spot_rate d c ≤ price_limit
    spot_rate_limit = class_price 2 (omega arith) (λ z. omega arith) (λ z. omega arith)

    pub non_spot_rate_limit : non_spot_rate d c ≤ price_limit
    non_spot_rate_limit = class_price 3 (omega arith) (λ z. omega arith) (λ z. omega arith)

    pub projected_limit : (k : ℕ) → k < point_count → projected d c k ≤ price_limit
    projected_limit k l = class_price (10 + k) (omega arith) (λ z. omega arith) (λ z. omega arith)

    pub offset_limit : offset d c ≤ whole_offset
    unfolding bad_class_word
    offset_limit = within (class_word d c 9) 4 whole_offset (class_word_lem 9 (omega arith))

  module _ (s : ℕ) (h : s < series_count d) where
    series_good : bad_series d s ≡ false
    unfolding row12
    series_good =
        let e : (class_count d + s) - class_count d ≡ s = omega arith in
        ap (bad_series d) (sym e)
        ∙ ap (λ (t : Bool). cond t (bad_class d (class_count d + s)) (bad_series d ((class_count d + s) - class_count d))) (sym (le-ltb (class_count d + s) (class_count d) (omega arith)))
        ∙ r.at12 (class_count d + s) (omega arith)

    series_word_lem : (i : ℕ) → i < series_words → bad_series_word d s i ≡ false
    unfolding bad_series
    series_word_lem =
        first_clear (bad_series_word d s) series_words
        (nothing_hit (first_bad (bad_series_word d s) series_words) (or_left (is_some (first_bad (bad_series_word d s) series_words)) (eqb (multiplier d s) 0) series_good))

    series_price : (i : ℕ) → i < series_words → i ≢ 0 → i ≢ 1 → payload (series_word d s i) ≤ price_limit
    unfolding bad_series_word
    series_price i p q o = within (series_word d s i) 3 price_limit (rw (ne_eqb i 0 q, ne_eqb i 1 o) at (series_word_lem i p))

    pub strike_limit : strike d s ≤ price_limit
    strike_limit = series_price 2 (omega arith) (λ z. omega arith) (λ z. omega arith)

    pub closing_limit : closing d s ≤ price_limit
    closing_limit = series_price 3 (omega arith) (λ z. omega arith) (λ z. omega arith)

    pub adjustment_limit : adjustment d s ≤ price_limit
    adjustment_limit = series_price 4 (omega arith) (λ z. omega arith) (λ z. omega arith)

    pub theoretical_limit : (k : ℕ) → k < point_count → theoretical d s k ≤ price_limit
    theoretical_limit k l = series_price (5 + k) (omega arith) (λ z. omega arith) (λ z. omega arith)

    pub multiplier_least : 1 ≤ multiplier d s
    unfolding bad_series
    multiplier_least =
        let z = eqb-false (multiplier d s) 0 (or_right (is_some (first_bad (bad_series_word d s) series_words)) (eqb (multiplier d s) 0) series_good) in
        omega arith

pub row20_count : (b : List ℕ) → row20 b ≡ false → record_count b ≤ most_records
unfolding row20
row20_count b e = ltb-false most_records (record_count b) (or_right (eqb (length b) 0 || not (eqb (kind (batch_header b)) 1)) (ltb most_records (record_count b)) e)

pub row21-length : (b : List ℕ) → row21 b ≡ false → length b ≡ batch_words (record_count b)
unfolding row21
row21-length b e = eqb-true (length b) (batch_words (record_count b)) (not-false (eqb (length b) (batch_words (record_count b))) e)

-- a batch that passes the rows that need no day file has the length of its records
pub form_length : (b : List ℕ) → batch_form b ≡ Ok tt → length b ≡ batch_words (record_count b)
unfolding batch_form
form_length b e = row21-length b (plain_clear (BatchLength BadBatchLength) _ (tried-passed _ e).1.0)

-- .. and few records
pub form_count : (b : List ℕ) → batch_form b ≡ Ok tt → record_count b ≤ most_records
unfolding batch_form
form_count b e = row20_count b (plain_clear (BatchHeader BadBatchHeader) _ (tried-passed _ e).0)

module _ (d b : List ℕ) (r : BatchChecks d b) where
  pub few_records : record_count b ≤ most_records
  few_records = row20_count b r.at20

  pub batch_length : length b ≡ batch_words (record_count b)
  batch_length = row21-length b r.at21

module _ (d b : List ℕ) (r : RecordRows d b) (q : ℕ) (h : q < record_count b) where
  in_range : (j : ℕ) → j < record_words → out_of_range b q j ≡ false
  unfolding row27
  in_range j l = words_clear (out_of_range b) (record_count b) r.at27 q j h l

  record_limit_lem : (j : ℕ) → j < record_words → payload (record_word b q j) ≤ record_limit j
  unfolding out_of_range
  record_limit_lem j l =
      ltb-false (record_limit j) (payload (record_word b q j)) (or_left (ltb (record_limit j) (payload (record_word b q j))) (eqb j 3 && dvp_out_of_range b q) (in_range j l))

  pub long_limit : long b q ≤ quantity_limit
  long_limit = record_limit_lem 1 (omega arith)

  pub short_limit : short b q ≤ quantity_limit
  short_limit = record_limit_lem 2 (omega arith)

  pub place_limit : place b q < series_count d
  unfolding row23
  place_limit = leb-false (series_count d) (place b q) (r.at23 q h)

  dvp-size : dvp_size b q ≤ dvp_amount_limit
  unfolding dvp_out_of_range out_of_range
  dvp-size =
      ltb-false dvp_amount_limit (dvp_size b q)
      (or_right (ltb 0 (bits (payload (record_word b q 3)) 5 23)) (ltb dvp_amount_limit (dvp_size b q))
      (or_right (ltb payload_limit (payload (record_word b q 3))) (dvp_out_of_range b q) (in_range 3 (omega arith))))

  pub dvp_limit_lem : nat_abs (dvp_amount b q) ≤ dvp_amount_limit
  dvp_limit_lem = rw (size-amount (record_word b q 3) (record_word b q 4) (record_word b q 5)) dvp-size

module _ (d b : List ℕ) (r : BatchRows d b) (q : ℕ) (h : q < record_count b) where
  pub net_limit_lem : nat_abs (net b (key b q)) * multiplier d (place b q) ≤ position_limit
  unfolding row30
  net_limit_lem = ltb-false position_limit (nat_abs (net b (key b q)) * multiplier d (place b q)) (r.at30 q h)

pub day-length : (d : List ℕ) → DayRows d → length d ≡ day_words (class_count d) (series_count d)
unfolding row11
day-length d r =
    eqb-true (length d) (day_words (class_count d) (series_count d)) (not-false (eqb (length d) (day_words (class_count d) (series_count d))) r.at11)
