-- U11 at work: the reading's amounts converted to cents and back, the limits of rows 33 and 34, and a refusal by each other row.
use Rattle.std.specs.Prelude.{◌≡◌, refl, List, [], ◌∷◌, ◌++◌, ℕ, ◌+◌, ◌^◌, ℤ, pos}
use Rattle.model.specs.Accounts.{Figure, all_computed, all_published, minus, batch_file, position_record, numbers_of}
use Rattle.model.specs.Limits.{dvp_amount_limit, cents_limit, most_records}
use Rattle.model.specs.Words.{word}
use Rattle.model.specs.Cents.{to_cents, from_cents}
use Rattle.model.specs.CentsCalls.{to_cents_answer, from_cents_answer}
use Rattle.model.specs.Computing.{everything}

-- ---- batches of two records: a share short with the DVP z, and behind it a fail of the last place without one

abbrev second : List ℕ
second = position_record 767 0 0 (pos 0)

abbrev pub two : ℤ → List ℕ
two z = batch_file 2 (position_record 4 0 7 z ++ second)

-- the same with the header's bit
abbrev in_cents : ℕ → List ℕ → List ℕ
in_cents n w = batch_file (2 ^ 28 + n) w

abbrev pub two_in_cents : ℤ → List ℕ
two_in_cents z = in_cents 2 (position_record 4 0 7 z ++ second)

-- the same records in the other order, the amount in the second
abbrev later : ℤ → List ℕ
later z = second ++ position_record 4 0 7 z

-- a record whose amount is minus zero
abbrev minus_zero : List ℕ
minus_zero = word 2 4 ∷ word 4 0 ∷ word 4 7 ∷ word 5 (2 ^ 28) ∷ word 6 0 ∷ word 6 0 ∷ []

-- ---- what they become

-- −8,150 euro are −815,000 cents, and back
pub cents_of_reading : to_cents (two (minus 81500000)) ≡ two_in_cents (minus 815000)
unfolding everything
cents_of_reading = refl

pub reading_of_cents : from_cents (two_in_cents (minus 815000)) ≡ two (minus 81500000)
unfolding everything
reading_of_cents = refl

-- the largest amount, of either sign
pub cents_of_limit : to_cents (two (pos dvp_amount_limit)) ≡ two_in_cents (pos cents_limit)
unfolding everything
cents_of_limit = refl

pub limit_of_cents : from_cents (two_in_cents (minus cents_limit)) ≡ two (minus dvp_amount_limit)
unfolding everything
limit_of_cents = refl

abbrev pub cents_rows : List Figure
cents_rows =
    -- the length, or 40 with the words needed
    record { computed = numbers_of (to_cents_answer (two (minus 81500000)) 13); published = pos 0 ∷ pos 13 ∷ [] }
    ∷ record { computed = numbers_of (to_cents_answer (two (minus 81500000)) 12); published = pos 40 ∷ pos 13 ∷ [] }
    ∷ record { computed = numbers_of (from_cents_answer (two_in_cents (minus 815000)) 13); published = pos 0 ∷ pos 13 ∷ [] }
    ∷ record { computed = numbers_of (from_cents_answer (two_in_cents (minus 815000)) 12); published = pos 40 ∷ pos 13 ∷ [] }
    -- no records
    ∷ record { computed = numbers_of (to_cents_answer (batch_file 0 []) 1); published = pos 0 ∷ pos 1 ∷ [] }
    ∷ record { computed = numbers_of (from_cents_answer (in_cents 0 []) 0); published = pos 40 ∷ pos 1 ∷ [] }
    -- 33: 150 units, of either sign, the place the record
    ∷ record { computed = numbers_of (to_cents_answer (two (pos 150)) 13); published = pos 33 ∷ pos 0 ∷ [] }
    ∷ record { computed = numbers_of (to_cents_answer (batch_file 2 (later (minus 150))) 0); published = pos 33 ∷ pos 1 ∷ [] }
    -- 34: a cent above the limit, of either sign
    ∷ record { computed = numbers_of (from_cents_answer (two_in_cents (pos cents_limit)) 13); published = pos 0 ∷ pos 13 ∷ [] }
    ∷ record { computed = numbers_of (from_cents_answer (two_in_cents (pos (cents_limit + 1))) 13); published = pos 34 ∷ pos 0 ∷ [] }
    ∷ record { computed = numbers_of (from_cents_answer (in_cents 2 (later (minus (cents_limit + 1)))) 0); published = pos 34 ∷ pos 1 ∷ [] }
    -- .. up to the limit of row 27, which names the amount's first word
    ∷ record { computed = numbers_of (from_cents_answer (two_in_cents (pos dvp_amount_limit)) 13); published = pos 34 ∷ pos 0 ∷ [] }
    ∷ record { computed = numbers_of (from_cents_answer (two_in_cents (pos (dvp_amount_limit + 1))) 13); published = pos 27 ∷ pos 4 ∷ [] }
    -- 20: the bit set on the way to cents, missing on the way back, and too many records
    ∷ record { computed = numbers_of (to_cents_answer (two_in_cents (pos 0)) 13); published = pos 20 ∷ pos 0 ∷ [] }
    ∷ record { computed = numbers_of (from_cents_answer (two (pos 0)) 13); published = pos 20 ∷ pos 0 ∷ [] }
    ∷ record { computed = numbers_of (to_cents_answer (batch_file (most_records + 1) []) 13); published = pos 20 ∷ pos 0 ∷ [] }
    ∷ record { computed = numbers_of (from_cents_answer (in_cents (most_records + 1) []) 13); published = pos 20 ∷ pos 0 ∷ [] }
    ∷ record { computed = numbers_of (from_cents_answer [] 13); published = pos 20 ∷ pos 0 ∷ [] }
    -- 21: 256 records are few enough, but are not there
    ∷ record { computed = numbers_of (to_cents_answer (batch_file most_records []) 13); published = pos 21 ∷ pos 0 ∷ [] }
    ∷ record { computed = numbers_of (from_cents_answer (in_cents most_records []) 13); published = pos 21 ∷ pos 0 ∷ [] }
    -- 22 and 28 of a later record before 33 and 34 of the first
    ∷ record { computed = numbers_of (to_cents_answer (batch_file 2 (position_record 4 0 7 (pos 150) ++ minus_zero)) 13); published = pos 28 ∷ pos 10 ∷ [] }
    ∷ record {
      computed = numbers_of (from_cents_answer (in_cents 2 (position_record 4 0 7 (pos (cents_limit + 1)) ++ (word 3 4 ∷ word 4 0 ∷ word 4 7 ∷ word 5 0 ∷ word 6 0 ∷ word 6 0 ∷ []))) 13);
      published = pos 22 ∷ pos 7 ∷ [];
    }
    ∷ []

pub cents-rows_agree : all_computed cents_rows ≡ all_published cents_rows
unfolding everything
cents-rows_agree = refl
