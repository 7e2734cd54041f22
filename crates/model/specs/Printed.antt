-- The text that the report program prints, as bytes: of a report from its words w, and of a refusal.
use Rattle.std.specs.Prelude.{Bool, not, ◌||◌, cond, List, [], ◌∷◌, ◌++◌, ℕ, zero, suc, ◌+◌, ◌*◌, ◌/◌, ◌%◌, ltb, eqb, ℤ, pos, negsuc, get_or, replicate, Ok, Err}
use Rattle.model.specs.Outcomes.{Answer}
use Rattle.model.specs.declared.Check.TheVariants.{Bytes}
use Rattle.model.specs.declared.BytesFault.TheVariants.{DayFile, BatchFile}
use Rattle.model.specs.Outcomes.{Verdict}
use Rattle.model.specs.Words.{payload, bits}
use Rattle.model.specs.Answers.{number_of, place_of}
use Rattle.model.specs.Rows.{tried, plain_row}
use Rattle.model.specs.Calls.{answer, answer_of, memory_after}
use Rattle.model.specs.Bytes.{words_of, row1, row2}
use Rattle.model.specs.Reading.{count_in, amount_in}
use Rattle.model.specs.Report.{words_a_line, longest_report}

-- ---- the heads of lines: "MARGIN", "O", "F", "TOTAL", "REFUSED" (Texts spells them)

abbrev pub margin_head : List ℕ
margin_head = 77 ∷ 65 ∷ 82 ∷ 71 ∷ 73 ∷ 78 ∷ []

abbrev pub ordinary_head : List ℕ
ordinary_head = 79 ∷ []

abbrev pub fail_head : List ℕ
fail_head = 70 ∷ []

abbrev pub total_head : List ℕ
total_head = 84 ∷ 79 ∷ 84 ∷ 65 ∷ 76 ∷ []

abbrev pub refused_head : List ℕ
refused_head = 82 ∷ 69 ∷ 70 ∷ 85 ∷ 83 ∷ 69 ∷ 68 ∷ []

-- ---- fields: decimal, one space before each

-- the decimal digits of n, without leading zeros; k bounds how many there are
unfoldable pub digits : ℕ → ℕ → List ℕ
digits zero n = []
digits (suc k) n = cond (ltb n 10) ((48 + n) ∷ []) (digits k (n / 10) ++ (48 + n % 10) ∷ [])

-- 20 digits hold every 64-bit number
abbrev pub decimal : ℕ → List ℕ
decimal n = digits 20 n

-- a minus sign before a negative
abbrev pub signed_decimal : ℤ → List ℕ
signed_decimal (pos n) = decimal n
signed_decimal (negsuc n) = 45 ∷ decimal (suc n)

abbrev pub number_field : ℕ → List ℕ
number_field n = 32 ∷ decimal n

-- the n amounts that stand from word i on
unfoldable pub amount_fields : List ℕ → ℕ → ℕ → List ℕ
amount_fields w i zero = []
amount_fields w i (suc n) = amount_fields w i n ++ 32 ∷ signed_decimal (amount_in w (i + 3 * n))

-- ---- lines: a head, its fields, a newline

-- the line that begins at word i: O or F, group, the six amounts
unfoldable pub line_text : List ℕ → ℕ → List ℕ
line_text w i =
    cond (eqb (bits (payload (get_or w i 0)) 5 1) 1) fail_head ordinary_head
    ++ number_field (bits (payload (get_or w i 0)) 0 5) ++ amount_fields w (i + 1) 6 ++ 10 ∷ []

-- the first n lines
unfoldable pub lines_text : List ℕ → ℕ → List ℕ
lines_text w zero = []
lines_text w (suc n) = lines_text w n ++ line_text w (3 + words_a_line * n)

-- the line count
unfoldable pub count_text : ℕ → List ℕ
count_text n = margin_head ++ number_field n ++ 10 ∷ []

-- the three totals, from word i on
unfoldable pub totals_text : List ℕ → ℕ → List ℕ
totals_text w i = total_head ++ amount_fields w i 3 ++ 10 ∷ []

unfoldable pub report_text : List ℕ → List ℕ
report_text w = count_text (count_in w) ++ lines_text w (count_in w) ++ totals_text w (4 + words_a_line * count_in w)

-- a refusal: its number and place
unfoldable pub refusal_text : ℕ → ℕ → List ℕ
refusal_text number place = refused_head ++ number_field number ++ number_field place ++ 10 ∷ []

abbrev pub printed : Answer → List ℕ → List ℕ
printed (Ok n) w = report_text w
printed (Err k) w = refusal_text (number_of k) (place_of k)

-- ---- the program: its two files, each opened or not, with the bytes read; its memory holds the longest report

unfoldable pub files_check : Bool → List ℕ → Bool → List ℕ → Verdict
files_check day_opened day batch_opened batch =
    tried (plain_row (Bytes DayFile) (not day_opened || row1 day) ∷ plain_row (Bytes BatchFile) (not batch_opened || row2 batch) ∷ [])

-- what it prints: the answer, read from its memory of zeros after the call over words
unfoldable pub program_text : Bool → List ℕ → Bool → List ℕ → List ℕ
program_text day_opened day batch_opened batch =
    printed (answer_of (files_check day_opened day batch_opened batch) (answer (words_of day) (words_of batch) [] longest_report)) (memory_after (words_of day) (words_of batch) [] (replicate longest_report 0))
