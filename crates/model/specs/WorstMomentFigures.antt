-- U10 at work: the reading's day, where the worst moment stands, what is left out and what is refused.
use Rattle.std.specs.Prelude.{◌≡◌, refl, List, [], ◌∷◌, ◌++◌, ℕ, ℤ, pos, Result, Ok, Err}
use Rattle.model.specs.declared.Check.{Check}
use Rattle.model.specs.declared.Moment.{Moment}
use Rattle.model.specs.Answers.{number_of, place_of}
use Rattle.model.specs.Accounts.{Figure, all_computed, all_published, batch_file, position_record}
use Rattle.model.specs.Figures.{share}
use Rattle.model.specs.Limits.{dvp_amount_limit}
use Rattle.model.specs.WorstMoment.{worst_answer}
use Rattle.model.specs.Computing.{everything}

-- 0, then margin, step, applied and left out; or a refusal's number and place
abbrev moment_numbers : Result Moment Check → List ℤ
moment_numbers (Ok m) = pos 0 ∷ m.margin ∷ pos m.step ∷ pos m.applied ∷ pos m.left_out ∷ []
moment_numbers (Err k) = pos (number_of k) ∷ pos (place_of k) ∷ []

-- ---- trades of M3's share, whose margin is 44 euro for each one short and 0 for one long

abbrev short : ℕ → List ℕ
short n = position_record 0 0 n (pos 0)

abbrev long : ℕ → List ℕ
long n = position_record 0 n 0 (pos 0)

-- of a series that does not exist
abbrev absent : List ℕ
absent = position_record 1 0 1 (pos 0)

abbrev empty : List ℕ
empty = batch_file 0 []

-- ten short, from the opening on
abbrev opening : List ℕ
opening = batch_file 1 (short 10)

abbrev pub worst_moments : List Figure
worst_moments =
    -- margins 0, 440, –, 220, 440: the earliest of the two, and the step left out keeps its number
    record { computed = moment_numbers (worst_answer share empty (short 10 ++ (absent ++ (long 5 ++ short 5)))); published = pos 0 ∷ pos 4400000 ∷ pos 1 ∷ pos 3 ∷ pos 1 ∷ [] }
    -- 0, –, 220: the second step has it
    ∷ record { computed = moment_numbers (worst_answer share empty (absent ++ short 5)); published = pos 0 ∷ pos 2200000 ∷ pos 2 ∷ pos 1 ∷ pos 1 ∷ [] }
    -- 440, 220, 440: the opening has it
    ∷ record { computed = moment_numbers (worst_answer share opening (long 5 ++ short 5)); published = pos 0 ∷ pos 4400000 ∷ pos 0 ∷ pos 2 ∷ pos 0 ∷ [] }
    -- no trades: the opening's margin
    ∷ record { computed = moment_numbers (worst_answer share opening []); published = pos 0 ∷ pos 4400000 ∷ pos 0 ∷ pos 0 ∷ pos 0 ∷ [] }
    -- a net or a DVP sum that rows 30 and 31 refuse is left out, and what follows goes on from the account before it
    ∷ record { computed = moment_numbers (worst_answer share opening (short 9999991 ++ short 1)); published = pos 0 ∷ pos 4840000 ∷ pos 2 ∷ pos 1 ∷ pos 1 ∷ [] }
    ∷ record {
      computed = moment_numbers (worst_answer share (batch_file 1 (position_record 0 0 10 (pos dvp_amount_limit))) (position_record 0 0 5 (pos 1) ++ short 5));
      published = pos 0 ∷ pos 0 ∷ pos 0 ∷ pos 1 ∷ pos 1 ∷ [];
    }
    -- a word too many; the opening's rows come first
    ∷ record { computed = moment_numbers (worst_answer share empty (short 10 ++ (0 ∷ []))); published = pos 62 ∷ pos 0 ∷ [] }
    ∷ record { computed = moment_numbers (worst_answer share (batch_file 1 absent) (0 ∷ [])); published = pos 23 ∷ pos 0 ∷ [] }
    ∷ []

pub worst-moments_agree : all_computed worst_moments ≡ all_published worst_moments
unfolding everything
worst-moments_agree = refl
