-- The checks of a batch: rows 20 to 28, and the first that refuses. b is the list of its words, d the day file's, r a record.
use Rattle.std.specs.Prelude.{Bool, not, ◌&&◌, ◌||◌, cond, List, [], ◌∷◌, ℕ, leb, ltb, eqb, nat_abs, length}
use Rattle.model.specs.declared.Check.TheVariants.{BatchHeader, BatchLength, BatchWords, Positions}
use Rattle.model.specs.declared.BatchHeaderFault.TheVariants.{BadBatchHeader}
use Rattle.model.specs.declared.BatchLengthFault.TheVariants.{BadBatchLength}
use Rattle.model.specs.declared.BatchWordsFault.{BatchWordsFault}
use Rattle.model.specs.declared.BatchWordsFault.TheVariants.{WrongKind, OutOfRange, MinusZero}
use Rattle.model.specs.declared.WordRow.{WordRow}
use Rattle.model.specs.declared.WordRow.TheVariants.{Row22, Row27, Row28}
use Rattle.model.specs.declared.PositionFault.TheVariants.{SeriesAbsent, ExercisedNonOption, FailNonSecurity, DvpNonSecurity}
use Rattle.model.specs.Outcomes.{Verdict}
use Rattle.model.specs.Limits.{quantity_limit, dvp_amount_limit, most_records}
use Rattle.model.specs.Words.{kind, payload, payload_limit, bits, negative}
use Rattle.model.specs.Rows.{tried, plain_row, record_row}
use Rattle.model.specs.DayFile.{series_count, series_type, is_option, is_security}
use Rattle.model.specs.Batch.{batch_header, record_count, batch_words, record_word, record_of, field_of, place, exercised, fail, dvp_size, dvp_amount}

-- no words, wrong kind, P too large
unfoldable pub row20 : List ℕ → Bool
row20 b = eqb (length b) 0 || not (eqb (kind (batch_header b)) 1) || ltb most_records (record_count b)

-- length isn't 1 + 6P
unfoldable pub row21 : List ℕ → Bool
row21 b = not (eqb (length b) (batch_words (record_count b)))

-- ---- the words of the records: j is a word's place in its record, i its index in the batch

-- the kind of word j: the key, the quantities, the DVP amount's three words
abbrev pub record_kind : ℕ → ℕ
record_kind j = cond (eqb j 0) 2 (cond (leb j 2) 4 (cond (eqb j 3) 5 6))

-- its largest payload: bits 10 on of the key are spare; the DVP amount has limits of its own
abbrev pub key_limit : ℕ
key_limit = 1023

abbrev pub record_limit : ℕ → ℕ
record_limit j = cond (eqb j 0) key_limit (cond (leb j 2) quantity_limit payload_limit)

-- the DVP amount has a spare bit or is too large; it is minus zero
unfoldable pub dvp_out_of_range : List ℕ → ℕ → Bool
dvp_out_of_range b r = ltb 0 (bits (payload (record_word b r 3)) 5 23) || ltb dvp_amount_limit (dvp_size b r)

unfoldable pub dvp_minus_zero : List ℕ → ℕ → Bool
dvp_minus_zero b r = eqb (negative (record_word b r 3)) 1 && eqb (dvp_size b r) 0

-- the tests of word j; what is said of the DVP amount is said of its first word
unfoldable pub wrong_kind : List ℕ → ℕ → ℕ → Bool
wrong_kind b r j = not (eqb (kind (record_word b r j)) (record_kind j))

unfoldable pub out_of_range : List ℕ → ℕ → ℕ → Bool
out_of_range b r j = ltb (record_limit j) (payload (record_word b r j)) || (eqb j 3 && dvp_out_of_range b r)

unfoldable pub minus_zero : List ℕ → ℕ → ℕ → Bool
minus_zero b r j = eqb j 3 && dvp_minus_zero b r

-- such a test at index i; the header is no record's word
unfoldable pub at_word : (ℕ → ℕ → Bool) → ℕ → Bool
at_word t i = ltb 0 i && t (record_of i) (field_of i)

-- wrong kind
unfoldable pub row22 : List ℕ → ℕ → Bool
row22 b = at_word (wrong_kind b)

-- spare bit or out of range
unfoldable pub row27 : List ℕ → ℕ → Bool
row27 b = at_word (out_of_range b)

-- minus zero
unfoldable pub row28 : List ℕ → ℕ → Bool
row28 b = at_word (minus_zero b)

-- the tests of the three, and their reasons
abbrev pub row_of : WordRow → List ℕ → ℕ → Bool
row_of Row22 = row22
row_of Row27 = row27
row_of Row28 = row28

abbrev pub fault_of : WordRow → BatchWordsFault
fault_of Row22 = WrongKind
fault_of Row27 = OutOfRange
fault_of Row28 = MinusZero

-- each over all words of n records, and all three
abbrev pub word_row : WordRow → List ℕ → ℕ → Verdict
word_row w b n = record_row (BatchWords (fault_of w)) (row_of w b) (batch_words n)

abbrev pub words_check : List ℕ → ℕ → Verdict
words_check b n = tried (word_row Row22 b n ∷ word_row Row27 b n ∷ word_row Row28 b n ∷ [])

-- ---- the records

-- series place not below S
unfoldable pub row23 : List ℕ → List ℕ → ℕ → Bool
row23 d b r = leb (series_count d) (place b r)

-- bit 8 on a non-option
unfoldable pub row24 : List ℕ → List ℕ → ℕ → Bool
row24 d b r = eqb (exercised b r) 1 && not (is_option (series_type d (place b r)))

-- bit 9 on a non-security
unfoldable pub row25 : List ℕ → List ℕ → ℕ → Bool
row25 d b r = eqb (fail b r) 1 && not (is_security (series_type d (place b r)))

-- DVP not 0 on a non-security
unfoldable pub row26 : List ℕ → List ℕ → ℕ → Bool
row26 d b r = ltb 0 (nat_abs (dvp_amount b r)) && not (is_security (series_type d (place b r)))

-- ---- the rows in their order

-- the stage of the words
unfoldable pub word_check : List ℕ → Verdict
word_check b = words_check b (record_count b)

-- those that need no day file
unfoldable pub batch_form : List ℕ → Verdict
batch_form b =
    tried
    (plain_row (BatchHeader BadBatchHeader) (row20 b)
    ∷ plain_row (BatchLength BadBatchLength) (row21 b)
    ∷ word_check b
    ∷ [])

-- the stage of the positions
unfoldable pub position_check : List ℕ → List ℕ → Verdict
position_check d b =
    tried
    (record_row (Positions SeriesAbsent) (row23 d b) (record_count b)
    ∷ record_row (Positions ExercisedNonOption) (row24 d b) (record_count b)
    ∷ record_row (Positions FailNonSecurity) (row25 d b) (record_count b)
    ∷ record_row (Positions DvpNonSecurity) (row26 d b) (record_count b)
    ∷ [])

unfoldable pub batch_check : List ℕ → List ℕ → Verdict
batch_check d b = tried (batch_form b ∷ position_check d b ∷ [])
