-- U1 at work: the call for many accounts on a day file without classes. A figure is the two numbers of the call's answer and the result list afterwards.
use Rattle.std.specs.Prelude.{◌≡◌, refl, List, [], ◌∷◌, ◌++◌, map, ℕ, ◌^◌, ℤ, pos, replicate}
use Rattle.model.specs.Words.{word}
use Rattle.model.specs.ManyAccounts.{reports_answer, results_after, reports_after}
use Rattle.model.specs.Accounts.{Figure, all_computed, all_published, numbers_of}
use Rattle.model.specs.Computing.{everything}

abbrev day : List ℕ
day = word 1 0 ∷ []

-- a batch without records, one of a wrong kind, and such a one again
abbrev batches : List ℕ
batches = word 1 0 ∷ word 2 0 ∷ word 1 0 ∷ []

abbrev lengths : List ℕ
lengths = 1 ∷ 1 ∷ 1 ∷ []

-- the report without lines: header, maps, and totals of 0
abbrev nought : List ℕ
nought = word 5 0 ∷ word 6 0 ∷ word 6 0 ∷ []

abbrev empty : List ℕ
empty = word 1 0 ∷ word 4 0 ∷ word 4 0 ∷ word 7 0 ∷ nought ++ (nought ++ nought)

-- a call with a result list of so many nines, and so many words of memory
abbrev outcome : List ℕ → List ℕ → List ℕ → ℕ → ℕ → List ℤ
outcome d bs ns entries room =
    numbers_of (reports_answer d bs ns entries room) ++ map pos (results_after d bs ns (replicate entries 9) room)

unfoldable pub brokers : List Figure
brokers =
    -- memory for two reports of 13 words; then for one, and the third account is refused
    record { computed = outcome day batches lengths 7 30; published = map pos (0 ∷ 26 ∷ 0 ∷ 13 ∷ 20 ∷ 0 ∷ 0 ∷ 13 ∷ 9 ∷ []) }
    ∷ record { computed = outcome day batches lengths 7 20; published = map pos (0 ∷ 13 ∷ 0 ∷ 13 ∷ 20 ∷ 0 ∷ 40 ∷ 13 ∷ 9 ∷ []) }
    -- a memory too short for any, and the day file refused: every account is, the call is not
    ∷ record { computed = outcome day batches lengths 6 12; published = map pos (0 ∷ 0 ∷ 40 ∷ 13 ∷ 20 ∷ 0 ∷ 40 ∷ 13 ∷ []) }
    ∷ record { computed = outcome [] batches lengths 6 30; published = map pos (0 ∷ 0 ∷ 10 ∷ 0 ∷ 10 ∷ 0 ∷ 10 ∷ 0 ∷ []) }
    -- no accounts, even with a bad day file
    ∷ record { computed = outcome [] [] [] 1 0; published = map pos (0 ∷ 0 ∷ 9 ∷ []) }
    -- 64 accounts, each of no words; 65 are 60, also beside a result list that is too short
    ∷ record { computed = numbers_of (reports_answer day [] (replicate 64 0) 128 0); published = map pos (0 ∷ 0 ∷ []) }
    ∷ record { computed = numbers_of (reports_answer day [] (replicate 65 0) 130 0); published = map pos (60 ∷ 0 ∷ []) }
    ∷ record { computed = outcome day [] (replicate 65 0) 1 0; published = map pos (60 ∷ 0 ∷ 9 ∷ []) }
    -- 60: a word too few and too many; lengths whose sum is right only where it wraps
    ∷ record { computed = outcome day batches (1 ∷ 1 ∷ []) 4 30; published = map pos (60 ∷ 0 ∷ 9 ∷ 9 ∷ 9 ∷ 9 ∷ []) }
    ∷ record { computed = outcome day batches (3 ∷ 1 ∷ []) 4 30; published = map pos (60 ∷ 0 ∷ 9 ∷ 9 ∷ 9 ∷ 9 ∷ []) }
    ∷ record { computed = outcome day [] (2 ^ 31 ∷ 2 ^ 31 ∷ []) 4 30; published = map pos (60 ∷ 0 ∷ 9 ∷ 9 ∷ 9 ∷ 9 ∷ []) }
    ∷ record { computed = outcome day batches (4294967295 ∷ 4 ∷ []) 4 30; published = map pos (60 ∷ 0 ∷ 9 ∷ 9 ∷ 9 ∷ 9 ∷ []) }
    -- 61: five entries for three accounts, also beside a bad day file
    ∷ record { computed = outcome day batches lengths 5 30; published = map pos (61 ∷ 0 ∷ 9 ∷ 9 ∷ 9 ∷ 9 ∷ 9 ∷ []) }
    ∷ record { computed = outcome [] batches lengths 5 30; published = map pos (61 ∷ 0 ∷ 9 ∷ 9 ∷ 9 ∷ 9 ∷ 9 ∷ []) }
    ∷ []

pub brokers_agree : all_computed brokers ≡ all_published brokers
unfolding brokers everything
brokers_agree = refl

-- the memories of the first two: reports end to end, then the words that were there
pub memory-30 : reports_after day batches lengths 7 (replicate 30 7) ≡ empty ++ (empty ++ replicate 4 7)
unfolding everything
memory-30 = refl

pub memory-20 : reports_after day batches lengths 7 (replicate 20 7) ≡ empty ++ replicate 7 7
unfolding everything
memory-20 = refl
