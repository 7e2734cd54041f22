-- U1, all accounts of a broker in one call: its answer, the result list and the report memory afterwards, for every day file d, run of batches bs, list of their lengths ns, result list rs and report memory m. Words in quotes are the request's.
use Rattle.std.specs.Prelude.{Bool, not, ◌||◌, List, [], ◌∷◌, ◌++◌, ℕ, zero, suc, ◌+◌, ◌-◌, ◌*◌, eqb, ltb, length, take, drop, get_or, Ok, Err}
use Rattle.numbers.specs.Put.{put}
use Rattle.model.specs.Outcomes.{Answer}
use Rattle.model.specs.declared.AccountsFault.TheVariants.{BadLengths, ShortResults}
use Rattle.model.specs.declared.Check.TheVariants.{Accounts}
use Rattle.model.specs.Outcomes.{Verdict}
use Rattle.model.specs.Limits.{most_accounts}
use Rattle.model.specs.Answers.{status_of, value_of}
use Rattle.model.specs.Rows.{tried, plain_row}
use Rattle.model.specs.Calls.{answer, answer_of, memory_after}

-- ---- the "batches back to back"

-- the words of the accounts before account i, added exactly
unfoldable pub words_before : List ℕ → ℕ → ℕ
words_before ns zero = 0
words_before ns (suc i) = words_before ns i + get_or ns i 0

-- the batch of account i
abbrev pub batch_of : List ℕ → List ℕ → ℕ → List ℕ
batch_of bs ns i = take (get_or ns i 0) (drop (words_before ns i) bs)

-- ---- rows 60 and 61, where the result list has this many entries

-- "two plain numbers an account"
abbrev pub result_numbers : ℕ
result_numbers = 2

-- "more than 64 accounts, or lengths that don't add up to the words given"
unfoldable pub row60 : List ℕ → List ℕ → Bool
row60 bs ns = ltb most_accounts (length ns) || not (eqb (words_before ns (length ns)) (length bs))

-- "a result list shorter than two plain numbers an account"
unfoldable pub row61 : List ℕ → ℕ → Bool
row61 ns entries = ltb entries (result_numbers * length ns)

-- "before every other row"
unfoldable pub accounts_check : List ℕ → List ℕ → ℕ → Verdict
accounts_check bs ns entries = tried (plain_row (Accounts BadLengths) (row60 bs ns) ∷ plain_row (Accounts ShortResults) (row61 ns entries) ∷ [])

-- ---- "single calls, made in turn, each with the report memory still left", without deposits

-- the words that an answer wrote: "a refused account .. writes no report words"
abbrev pub words_in : Answer → ℕ
words_in (Ok n) = n
words_in (Err k) = 0

-- its two numbers in the result list: "its number and place", or "0 and its report's length"
abbrev pub pair_of : Answer → List ℕ
pair_of a = status_of a ∷ value_of a ∷ []

-- b i is the batch of account i, room the words of the report memory
module _ (d : List ℕ) (b : ℕ → List ℕ) (room : ℕ) where
  -- where the report of account i starts: behind the words written before
  unfoldable pub report_start : ℕ → ℕ
  report_start zero = 0
  report_start (suc i) = report_start i + words_in (answer d (b i) [] (room - report_start i))

  -- the single call of account i
  abbrev pub answer_for : ℕ → Answer
  answer_for i = answer d (b i) [] (room - report_start i)

  -- the result list after i calls
  unfoldable pub results_to : List ℕ → ℕ → List ℕ
  results_to rs zero = rs
  results_to rs (suc i) = put (result_numbers * i) (pair_of (answer_for i)) (results_to rs i)

module _ (d : List ℕ) (b : ℕ → List ℕ) (m : List ℕ) where
  -- the report memory after i calls: the words written before stay, the call has the rest
  unfoldable pub memory_to : ℕ → List ℕ
  memory_to zero = m
  memory_to (suc i) =
      take (report_start d b (length m) i) (memory_to i) ++ memory_after d (b i) [] (drop (report_start d b (length m) i) (memory_to i))

-- ---- the call

-- what a call leaves of a list where its rows say v: all accounts done, or as it was
abbrev pub left_by : Verdict → List ℕ → List ℕ → List ℕ
left_by (Ok _) done l = done
left_by (Err k) done l = l

module _ (d bs ns : List ℕ) where
  -- "the call returns the words written in all"
  unfoldable pub reports_answer : ℕ → ℕ → Answer
  reports_answer entries room = answer_of (accounts_check bs ns entries) (Ok (report_start d (batch_of bs ns) room (length ns)))

  unfoldable pub results_after : List ℕ → ℕ → List ℕ
  results_after rs room = left_by (accounts_check bs ns (length rs)) (results_to d (batch_of bs ns) room rs (length ns)) rs

  unfoldable pub reports_after : ℕ → List ℕ → List ℕ
  reports_after entries m = left_by (accounts_check bs ns entries) (memory_to d (batch_of bs ns) m (length ns)) m
