-- The checks of a day file: rows 10 to 18, and the first that refuses. d is the list of its words, c a class, s a series.
use Rattle.std.specs.Prelude.{Bool, not, ◌&&◌, ◌||◌, cond, List, [], ◌∷◌, ℕ, ◌+◌, ◌-◌, leb, ltb, eqb, length, is_some}
use Rattle.numbers.specs.Scan.{any_below}
use Rattle.model.specs.declared.Check.TheVariants.{DayHeader, DayLength, DayWords, Classes, Series}
use Rattle.model.specs.declared.DayHeaderFault.TheVariants.{BadDayHeader}
use Rattle.model.specs.declared.DayLengthFault.TheVariants.{BadDayLength}
use Rattle.model.specs.declared.DayWordsFault.TheVariants.{BadDayWord}
use Rattle.model.specs.declared.ClassFault.TheVariants.{ClassOrder, OffsetDiffers, PriceOrder}
use Rattle.model.specs.declared.SeriesFault.TheVariants.{ClassAbsent, SeriesOrder, BadType}
use Rattle.model.specs.Outcomes.{Verdict}
use Rattle.model.specs.Limits.{most_classes, most_series, group_count, downside1, upside1, upside5, multiplier_limit, whole_offset}
use Rattle.model.specs.Words.{kind, payload, payload_limit, bits, bad_word, bad_price}
use Rattle.model.specs.Rows.{tried, plain_row, record_row}
use Rattle.model.specs.DayFile.{day_header, class_count, series_count, class_words, series_words, day_words, class_word, group, class_number, underlying, offset, projected, series_word, series_key, serial, expiry, series_type, multiplier, strike, adjustment, is_future, is_option, is_derivative, is_security, found_class}

-- no words, wrong kind, spare bits, C or S too large
unfoldable pub row10 : List ℕ → Bool
row10 d =
    eqb (length d) 0 || not (eqb (kind (day_header d)) 1) || ltb 0 (bits (payload (day_header d)) 16 13)
    || ltb most_classes (class_count d) || ltb most_series (series_count d)

-- length isn't 1 + 20C + 15S
unfoldable pub row11 : List ℕ → Bool
row11 d = not (eqb (length d) (day_words (class_count d) (series_count d)))

-- word i of class c: the key (bits 11 on are spare), the offset, or a price or rate
unfoldable pub bad_class_word : List ℕ → ℕ → ℕ → Bool
bad_class_word d c i =
    cond (eqb i 0) (bad_word (class_word d c 0) 2 2047)
    (cond (eqb i 9) (bad_word (class_word d c 9) 4 whole_offset) (bad_price (class_word d c i)))

-- word i of series s: the key (no spare bit), the multiplier, or a price
unfoldable pub bad_series_word : List ℕ → ℕ → ℕ → Bool
bad_series_word d s i =
    cond (eqb i 0) (bad_word (series_word d s 0) 2 payload_limit)
    (cond (eqb i 1) (bad_word (series_word d s 1) 4 multiplier_limit) (bad_price (series_word d s i)))

unfoldable pub bad_class : List ℕ → ℕ → Bool
bad_class d c = any_below class_words (bad_class_word d c) || leb group_count (group d c)

unfoldable pub bad_series : List ℕ → ℕ → Bool
bad_series d s = any_below series_words (bad_series_word d s) || eqb (multiplier d s) 0

-- wrong kind, spare bit or payload out of range in record i, classes then series
unfoldable pub row12 : List ℕ → ℕ → Bool
row12 d i = cond (ltb i (class_count d)) (bad_class d i) (bad_series d (i - class_count d))

-- class number not above the one before
unfoldable pub row13 : List ℕ → ℕ → Bool
row13 d c = ltb 0 c && leb (class_number d c) (class_number d (c - 1))

-- offset differs from an earlier class of the group
unfoldable pub offsets_differ : List ℕ → ℕ → ℕ → Bool
offsets_differ d c j = eqb (group d j) (group d c) && not (eqb (offset d j) (offset d c))

unfoldable pub row14 : List ℕ → ℕ → Bool
row14 d c = any_below c (offsets_differ d c)

-- the projected price at the point behind k is below that at k
unfoldable pub projected_falls : List ℕ → ℕ → ℕ → Bool
projected_falls d c k = ltb (projected d c (k + 1)) (projected d c k)

-- a projected price is below the one before it, or the underlying price below downside 1 or above upside 1 (U8)
unfoldable pub row18 : List ℕ → ℕ → Bool
row18 d c =
    any_below upside5 (projected_falls d c)
    || ltb (underlying d c) (projected d c downside1)
    || ltb (projected d c upside1) (underlying d c)

-- class number absent
unfoldable pub row15 : List ℕ → ℕ → Bool
row15 d s = not (is_some (found_class d s))

-- key payload, then strike, not above the record before
unfoldable pub row16 : List ℕ → ℕ → Bool
row16 d s =
    ltb 0 s
    && not (ltb (series_key d (s - 1)) (series_key d s)
    || (eqb (series_key d (s - 1)) (series_key d s) && ltb (strike d (s - 1)) (strike d s)))

-- no type of 1–6 and 8 (U9); serial not 0 on types 1–3 and 8; strike not 0 on an open future; strike or expiry not 0 on a security; adjustment not 0 on a series that is no option (U3)
unfoldable pub row17 : List ℕ → ℕ → Bool
row17 d s =
    not (is_derivative (series_type d s) || is_security (series_type d s))
    || (is_derivative (series_type d s) && ltb 0 (serial d s))
    || (is_future (series_type d s) && ltb 0 (strike d s))
    || (is_security (series_type d s) && (ltb 0 (strike d s) || ltb 0 (expiry d s)))
    || (not (is_option (series_type d s)) && ltb 0 (adjustment d s))

-- ---- the rows in their order

-- the stage of the classes
unfoldable pub class_check : List ℕ → Verdict
class_check d =
    tried
    (record_row (Classes ClassOrder) (row13 d) (class_count d)
    ∷ record_row (Classes OffsetDiffers) (row14 d) (class_count d)
    ∷ record_row (Classes PriceOrder) (row18 d) (class_count d)
    ∷ [])

-- the stage of the series
unfoldable pub series_check : List ℕ → Verdict
series_check d =
    tried
    (record_row (Series ClassAbsent) (row15 d) (series_count d)
    ∷ record_row (Series SeriesOrder) (row16 d) (series_count d)
    ∷ record_row (Series BadType) (row17 d) (series_count d)
    ∷ [])

-- the records of a file of the right length
unfoldable pub record_check : List ℕ → Verdict
record_check d =
    tried
    (record_row (DayWords BadDayWord) (row12 d) (class_count d + series_count d)
    ∷ class_check d
    ∷ series_check d
    ∷ [])

unfoldable pub day_check : List ℕ → Verdict
day_check d =
    tried
    (plain_row (DayHeader BadDayHeader) (row10 d)
    ∷ plain_row (DayLength BadDayLength) (row11 d)
    ∷ record_check d
    ∷ [])
