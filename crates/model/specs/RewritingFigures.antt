-- U7 at work: the reading's seven records that become four, and refusals of both calls. What they write, and a full account, stand in crate examples.
use Rattle.std.specs.Prelude.{◌≡◌, refl, List, [], ◌∷◌, ◌++◌, ℕ, ◌+◌, ℤ, pos, replicate}
use Rattle.model.specs.Limits.{dvp_amount_limit, most_records}
use Rattle.model.specs.Netting.{position}
use Rattle.model.specs.Accounts.{Figure, all_computed, all_published, minus, ten, no_rates, day_file, class_record, series_record, batch_file, position_record, numbers_of}
use Rattle.model.specs.Rewriting.{rewriting}
use Rattle.model.specs.RewritingCalls.{rewrite_answer, add_answer}
use Rattle.model.specs.Computing.{everything}

-- ---- the accounts

-- a call at place 0, shares at places 1 and 2; multiplier 1, prices 0
abbrev pub day : List ℕ
day =
    day_file 2 3
    (class_record 0 0 no_rates 0 (ten 0)
    ++ (class_record 0 1 no_rates 0 (ten 0)
    ++ (series_record 0 2 0 1 (0 ∷ 0 ∷ []) (ten 0) ++ (series_record 0 4 0 1 (0 ∷ 0 ∷ []) (ten 0) ++ series_record 1 4 0 1 (0 ∷ 0 ∷ []) (ten 0)))))

-- a record of series s: open, exercised or assigned, a fail
abbrev pub opened : ℕ → ℕ → ℕ → ℤ → List ℕ
opened s = position_record (position 0 0 s)

abbrev pub exercised : ℕ → ℕ → ℕ → List ℕ
exercised s long short = position_record (position 0 1 s) long short (pos 0)

abbrev pub fail : ℕ → ℕ → ℕ → ℤ → List ℕ
fail s = position_record (position 1 0 s)

abbrev pub seven : List ℕ
seven =
    batch_file 7
    (opened 1 7 0 (pos 0)
    ++ (opened 0 5 0 (pos 0) ++ (opened 1 0 7 (pos 100000) ++ (opened 0 0 2 (pos 0) ++ (opened 2 4 4 (pos 0) ++ (exercised 0 1 0 ++ fail 1 0 2 (pos 0)))))))

-- the call long 3, the call exercised 1, the share with its DVP alone, the fail short 2
abbrev pub four : List ℕ
four = batch_file 4 (opened 0 3 0 (pos 0) ++ (exercised 0 1 0 ++ (opened 1 0 0 (pos 100000) ++ fail 1 0 2 (pos 0))))

-- record 1 has the largest DVP of either sign, record 3 of the same share z more
abbrev pub large : ℤ → ℤ → List ℕ
large limit z = batch_file 4 (opened 0 1 0 (pos 0) ++ (opened 1 0 0 limit ++ (opened 2 0 0 (pos 1) ++ opened 1 0 0 z)))

-- ---- what they become

pub seven_are_four : rewriting seven ≡ four
unfolding everything
seven_are_four = refl

-- ---- refusals

-- a call and its two numbers; the memory is large enough
abbrev refusals : List Figure
refusals =
    -- 31: one unit above the limit, of either sign; the place is the position's first record
    record { computed = numbers_of (rewrite_answer day (large (pos dvp_amount_limit) (pos 1)) 25); published = pos 31 ∷ pos 1 ∷ [] }
    ∷ record { computed = numbers_of (rewrite_answer day (large (minus dvp_amount_limit) (minus 1)) 25); published = pos 31 ∷ pos 1 ∷ [] }
    -- .. of a position that the record added joins
    ∷ record { computed = numbers_of (add_answer day four (opened 1 0 0 (pos dvp_amount_limit)) 31); published = pos 31 ∷ pos 2 ∷ [] }
    -- the words of the record added have indexes 25 to 30, its place is 4
    ∷ record { computed = numbers_of (add_answer day four (opened 1 10000001 0 (pos 0)) 31); published = pos 27 ∷ pos 26 ∷ [] }
    ∷ record { computed = numbers_of (add_answer day four (exercised 1 1 0) 31); published = pos 24 ∷ pos 4 ∷ [] }
    -- 21: it has five words, or seven
    ∷ record { computed = numbers_of (add_answer day four (replicate 5 0) 31); published = pos 21 ∷ pos 0 ∷ [] }
    ∷ record { computed = numbers_of (add_answer day four (opened 1 1 0 (pos 0) ++ (0 ∷ [])) 31); published = pos 21 ∷ pos 0 ∷ [] }
    -- 20 looks at the batch as given: its header may say 256
    ∷ record { computed = numbers_of (add_answer day (batch_file (most_records + 1) []) (replicate 5 0) 31); published = pos 20 ∷ pos 0 ∷ [] }
    ∷ record { computed = numbers_of (add_answer day (batch_file most_records []) (opened 1 1 0 (pos 0)) 31); published = pos 21 ∷ pos 0 ∷ [] }
    ∷ []

pub refusals_agree : all_computed refusals ≡ all_published refusals
unfolding everything
refusals_agree = refl
