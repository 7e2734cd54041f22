-- U1's claims about the call for many accounts, as a host reads its outcome: what each account gets, that an edit in one moves nothing in another's report but its starting place, and demand 3 for each account inside the call. Words in quotes are the request's.
use Rattle.std.specs.Prelude.{◌≡◌, ◌≢◌, cond, List, [], ◌++◌, ℕ, zero, suc, ◌+◌, ◌-◌, ◌*◌, ◌^◌, ◌≤◌, ◌<◌, eqb, length, take, drop, get_or, set, Ok, Err}
use Rattle.model.specs.Outcomes.{Answer}
use Rattle.model.specs.declared.Check.{Check}
use Rattle.model.specs.Limits.{group_count}
use Rattle.model.specs.Answers.{value_of}
use Rattle.model.specs.Calls.{verdict, Accepted, answer_of, needed, report}
use Rattle.model.specs.ManyAccounts.{words_before, batch_of, result_numbers, accounts_check, words_in, pair_of, report_start, answer_for, memory_to, reports_answer, results_after, reports_after}
use Rattle.model.specs.Locality.{Edit, LocalChange, Reordered}

-- ---- the outcome, read from the result list and the report memory afterwards

-- the words that two numbers say were written
abbrev pub length_of : List ℕ → ℕ
length_of p = cond (eqb (get_or p 0 0) 0) (get_or p 1 0) 0

module _ (d bs ns rs m : List ℕ) where
  -- the two numbers of account k
  abbrev pub pair_at : ℕ → List ℕ
  pair_at k = take result_numbers (drop (result_numbers * k) (results_after d bs ns rs (length m)))

  -- "each report starts where the one before ended"
  unfoldable pub start_at : ℕ → ℕ
  start_at zero = 0
  start_at (suc k) = start_at k + length_of (pair_at k)

  -- the report of account k; no words if it was refused
  abbrev pub report_at : ℕ → List ℕ
  report_at k = take (length_of (pair_at k)) (drop (start_at k) (reports_after d bs ns (length rs) m))

-- ---- "enough memory for all"

-- the answer to a batch where no memory lacks
abbrev pub freely : List ℕ → List ℕ → Answer
freely d b = answer_of (verdict d b []) (Ok (needed d b))

-- the words that the first n accounts need
unfoldable pub needed_to : List ℕ → (ℕ → List ℕ) → ℕ → ℕ
needed_to d b zero = 0
needed_to d b (suc i) = needed_to d b i + words_in (freely d (b i))

-- a call past rows 60 and 61, with enough memory for all
pub record Enough (d bs ns rs m : List ℕ) : Type 0 where
  pub passed : accounts_check bs ns (length rs) ≡ Ok tt
  pub room : needed_to d (batch_of bs ns) (length ns) ≤ length m

-- ---- "an edit in one account": any batch x in the place of account j's, accepted or refused, of any length

abbrev pub edited_batches : List ℕ → List ℕ → ℕ → List ℕ → List ℕ
edited_batches bs ns j x = take (words_before ns j) bs ++ (x ++ drop (words_before ns (suc j)) bs)

abbrev pub edited_lengths : List ℕ → ℕ → List ℕ → List ℕ
edited_lengths ns j x = set ns j (length x)

-- ---- the claims

-- every call, whatever the memory
pub record InTurn : Type 0 where
  -- the rest of the memory that account k's call has is as long as the room that its answer goes by
  pub rests : (d bs ns m : List ℕ) (k : ℕ)
      → length (drop (report_start d (batch_of bs ns) (length m) k) (memory_to d (batch_of bs ns) m k)) ≡ length m - report_start d (batch_of bs ns) (length m) k
  -- each account's two numbers, its start and its words are those of a single call, on the memory still left
  pub pairs : (d bs ns rs m : List ℕ) (k : ℕ) → k < length ns → accounts_check bs ns (length rs) ≡ Ok tt
      → pair_at d bs ns rs m k ≡ pair_of (answer_for d (batch_of bs ns) (length m) k)
  pub starts : (d bs ns rs m : List ℕ) (k : ℕ) → k ≤ length ns → accounts_check bs ns (length rs) ≡ Ok tt
      → start_at d bs ns rs m k ≡ report_start d (batch_of bs ns) (length m) k
  pub reports : (d bs ns rs m : List ℕ) (k n : ℕ) → k < length ns → accounts_check bs ns (length rs) ≡ Ok tt
      → answer_for d (batch_of bs ns) (length m) k ≡ Ok n → report_at d bs ns rs m k ≡ report d (batch_of bs ns k) []
  -- "a refused account .. writes no report words, and the following account goes on" where it stood
  pub refused : (d bs ns m : List ℕ) (k : ℕ) (c : Check) → answer_for d (batch_of bs ns) (length m) k ≡ Err c
      → report_start d (batch_of bs ns) (length m) (suc k) ≡ report_start d (batch_of bs ns) (length m) k
  -- the result list past two numbers an account remains, and so do the words behind the last report
  pub entries : (d bs ns rs m : List ℕ) → accounts_check bs ns (length rs) ≡ Ok tt
      → drop (result_numbers * length ns) (results_after d bs ns rs (length m)) ≡ drop (result_numbers * length ns) rs
  pub behind : (d bs ns rs m : List ℕ) (n : ℕ) → reports_answer d bs ns (length rs) (length m) ≡ Ok n
      → drop n (reports_after d bs ns (length rs) m) ≡ drop n m
  -- neither changes its length
  pub long_results : (d bs ns rs : List ℕ) (room : ℕ) → length (results_after d bs ns rs room) ≡ length rs
  pub long_memory : (d bs ns m : List ℕ) (entries : ℕ) → length (reports_after d bs ns entries m) ≡ length m
  -- the value of the call's answer fits a word
  pub small : (d bs ns : List ℕ) (entries room : ℕ) → value_of (reports_answer d bs ns entries room) < 2 ^ 32
  -- rows 60 and 61 "write nothing"
  pub nothing : (d bs ns rs m : List ℕ) (c : Check) → reports_answer d bs ns (length rs) (length m) ≡ Err c
      → (results_after d bs ns rs (length m) ≡ rs) × (reports_after d bs ns (length rs) m ≡ m)

-- account k has the same two numbers and the same report in two calls
pub record SameAccount (d bs₁ ns₁ rs₁ m₁ bs₂ ns₂ rs₂ m₂ : List ℕ) (k : ℕ) : Type 0 where
  pub pair : pair_at d bs₁ ns₁ rs₁ m₁ k ≡ pair_at d bs₂ ns₂ rs₂ m₂ k
  pub words : report_at d bs₁ ns₁ rs₁ m₁ k ≡ report_at d bs₂ ns₂ rs₂ m₂ k

-- "an edit in one account moves nothing in another's report but its starting place, given enough memory for all"
pub record OtherAccounts : Type 0 where
  -- the edit of account j passes rows 60 and 61 as before, has x in its place and leaves every other account's batch
  pub passes : (bs ns x : List ℕ) (entries j : ℕ) → j < length ns → accounts_check bs ns entries ≡ Ok tt
      → accounts_check (edited_batches bs ns j x) (edited_lengths ns j x) entries ≡ Ok tt
  pub edited : (bs ns x : List ℕ) (entries j : ℕ) → j < length ns → accounts_check bs ns entries ≡ Ok tt
      → batch_of (edited_batches bs ns j x) (edited_lengths ns j x) j ≡ x
  pub left : (bs ns x : List ℕ) (entries j k : ℕ) → j < length ns → k ≢ j → accounts_check bs ns entries ≡ Ok tt
      → batch_of (edited_batches bs ns j x) (edited_lengths ns j x) k ≡ batch_of bs ns k
  -- every other account is the same in both, whatever stands in either's result list and memory before
  pub others : (d bs ns x rs₁ m₁ rs₂ m₂ : List ℕ) (j k : ℕ) → j < length ns → k < length ns → k ≢ j
      → Enough d bs ns rs₁ m₁ → Enough d (edited_batches bs ns j x) (edited_lengths ns j x) rs₂ m₂
      → SameAccount d bs ns rs₁ m₁ (edited_batches bs ns j x) (edited_lengths ns j x) rs₂ m₂ k
  -- and its two numbers and its report are those of a single call with memory enough
  pub alone : (d bs ns rs m : List ℕ) (k : ℕ) → k < length ns → Enough d bs ns rs m
      → (pair_at d bs ns rs m k ≡ pair_of (freely d (batch_of bs ns k)))
      × (Accepted d (batch_of bs ns k) [] → report_at d bs ns rs m k ≡ report d (batch_of bs ns k) [])

-- the whole outcome of two calls is the same
pub record SameOutcome (d bs₁ ns₁ bs₂ ns₂ rs m : List ℕ) : Type 0 where
  pub answers : reports_answer d bs₁ ns₁ (length rs) (length m) ≡ reports_answer d bs₂ ns₂ (length rs) (length m)
  pub results : results_after d bs₁ ns₁ rs (length m) ≡ results_after d bs₂ ns₂ rs (length m)
  pub memories : reports_after d bs₁ ns₁ (length rs) m ≡ reports_after d bs₂ ns₂ (length rs) m

-- demand 3 for account j of a call (specs/Locality)
pub record Inside : Type 0 where
  -- an edit in group g of book k of its batch changes that line of its report alone
  pub edits : (d bs ns x rs₁ m₁ rs₂ m₂ : List ℕ) (j g k : ℕ) → j < length ns → g < group_count → k < 2
      → Accepted d (batch_of bs ns j) [] → Accepted d x [] → Edit d g k (batch_of bs ns j) x
      → Enough d bs ns rs₁ m₁ → Enough d (edited_batches bs ns j x) (edited_lengths ns j x) rs₂ m₂
      → LocalChange (report_at d bs ns rs₁ m₁ j) (report_at d (edited_batches bs ns j x) (edited_lengths ns j x) rs₂ m₂ j) g k
  -- the order of its records changes nothing at all, even where the memory is too short
  pub orders : (d bs ns x rs m : List ℕ) (j : ℕ) → j < length ns → accounts_check bs ns (length rs) ≡ Ok tt
      → Accepted d (batch_of bs ns j) [] → Reordered (batch_of bs ns j) x
      → SameOutcome d bs ns (edited_batches bs ns j x) (edited_lengths ns j x) rs m
