-- A refusal of each row, in the table's order: number and place of the answer. Rows 1 and 2 are those of the byte call.
use Rattle.std.specs.Prelude.{◌≡◌, refl, ◌||◌, List, [], ◌∷◌, ◌++◌, ℕ, ◌+◌, ◌*◌, ◌%◌, ◌^◌, ltb, pos, neg_ℤ, length, set}
use Rattle.model.specs.Words.{word}
use Rattle.model.specs.Calls.{answer}
use Rattle.model.specs.Bytes.{row1, row2, byte_answer}
use Rattle.model.specs.Accounts.{Figure, all_computed, all_published, ten, no_rates, day_file, class_record, series_record, batch_file, position_record, numbers_of, answer_numbers}
use Rattle.model.specs.Computing.{everything}
use Rattle.model.specs.DayFile.{class_at, day_words}
use Rattle.model.specs.Report.{longest_report}

-- ---- an accepted day file and batch

-- a future, a call and a share of one class; words 1 to 20 are the class, then 15 words a series
abbrev day : List ℕ
day =
    day_file 1 3
    (class_record 2 0 no_rates 0 (ten 0)
    ++ (series_record 0 1 3 1 (0 ∷ 0 ∷ []) (ten 0)
    ++ (series_record 0 2 3 1 (50000 ∷ 0 ∷ []) (ten 0) ++ series_record 0 4 0 1 (0 ∷ 0 ∷ []) (ten 0))))

-- two classes without series
abbrev classes : List ℕ → List ℕ → List ℕ
classes a b = day_file 2 0 (a ++ b)

-- a share held, and another record behind it
abbrev held : List ℕ → List ℕ
held record₁ = batch_file 2 (position_record 2 1 0 (pos 0) ++ record₁)

-- two such records: words 1 to 6 and 7 to 12
abbrev shares : List ℕ
shares = held (position_record 2 1 0 (pos 0))

-- a quantity above the limit, and a sign without a magnitude, which is minus zero
abbrev too_many : ℕ
too_many = word 4 10000001

abbrev sign_alone : ℕ
sign_alone = word 5 (2 ^ 28)

abbrev none : List ℕ
none = batch_file 0 []

-- the same file with another header, or one word of its class or of series s changed
abbrev changed_header : ℕ → List ℕ
changed_header w = set day 0 w

abbrev changed_class : ℕ → ℕ → List ℕ
changed_class i w = set day (class_at 0 + i) w

abbrev changed_series : ℕ → ℕ → ℕ → List ℕ
changed_series s i w = set day (day_words 1 s + i) w

unfoldable pub refusals : List Figure
refusals =
    -- accepted
    record { computed = answer_numbers day none; published = pos 0 ∷ pos 13 ∷ [] }
    -- 1 and 2: no multiple of 4 bytes, also beside a bad day file
    ∷ record {
      computed = numbers_of (byte_answer (0 ∷ []) [] 0) ++ numbers_of (byte_answer [] (0 ∷ 0 ∷ []) 0);
      published = pos 1 ∷ pos 0 ∷ pos 2 ∷ pos 0 ∷ [];
    }
    -- 10: no words, another kind, a spare bit, 65 classes, 257 series
    ∷ record {
      computed =
          answer_numbers [] none ++ answer_numbers (changed_header (word 2 385)) none
          ++ answer_numbers (changed_header (word 1 (2 ^ 16 + 385))) none
          ++ answer_numbers (word 1 65 ∷ []) none
          ++ answer_numbers (word 1 (2 ^ 7 * 257) ∷ []) none;
      published = pos 10 ∷ pos 0 ∷ pos 10 ∷ pos 0 ∷ pos 10 ∷ pos 0 ∷ pos 10 ∷ pos 0 ∷ pos 10 ∷ pos 0 ∷ [];
    }
    -- 11: a word too many
    ∷ record { computed = answer_numbers (day ++ 0 ∷ []) none; published = pos 11 ∷ pos 0 ∷ [] }
    -- 12: a spare bit of the class's key, group 29, an offset of 10,001; a multiplier of 10,001 and a price above its limit in the first series, a multiplier of 0 in the second
    ∷ record {
      computed =
          answer_numbers (changed_class 0 (word 2 (2 + 2 ^ 11))) none ++ answer_numbers (changed_class 0 (word 2 29)) none
          ++ answer_numbers (changed_class 9 (word 4 10001)) none
          ++ answer_numbers (changed_series 0 1 (word 4 10001)) none
          ++ answer_numbers (changed_series 0 3 (word 3 500000001)) none
          ++ answer_numbers (changed_series 1 1 (word 4 0)) none;
      published = pos 12 ∷ pos 0 ∷ pos 12 ∷ pos 0 ∷ pos 12 ∷ pos 0 ∷ pos 12 ∷ pos 1 ∷ pos 12 ∷ pos 1 ∷ pos 12 ∷ pos 2 ∷ [];
    }
    -- 13: a class number again
    ∷ record {
      computed = answer_numbers (classes (class_record 2 5 no_rates 0 (ten 0)) (class_record 2 5 no_rates 0 (ten 0))) none;
      published = pos 13 ∷ pos 1 ∷ [];
    }
    -- 14: offsets of 82.75% and 82.76% in one group
    ∷ record {
      computed = answer_numbers (classes (class_record 2 5 no_rates 8275 (ten 0)) (class_record 2 6 no_rates 8276 (ten 0))) none;
      published = pos 14 ∷ pos 1 ∷ [];
    }
    -- 18, before 15: a class whose downside 5 is above its downside 4
    ∷ record { computed = answer_numbers (changed_class 10 (word 3 1)) none; published = pos 18 ∷ pos 0 ∷ [] }
    -- 15: class 1 in the third series
    ∷ record { computed = answer_numbers (changed_series 2 0 (word 2 (2 ^ 19 * 4 + 2 ^ 23))) none; published = pos 15 ∷ pos 2 ∷ [] }
    -- 16: a key below the one before
    ∷ record { computed = answer_numbers (changed_series 2 0 (word 2 0)) none; published = pos 16 ∷ pos 2 ∷ [] }
    -- 17: type 7; a strike on the future; a serial on the call; an expiry on the share
    ∷ record {
      computed =
          answer_numbers (changed_series 2 0 (word 2 (2 ^ 19 * 7))) none ++ answer_numbers (changed_series 0 2 (word 3 1)) none
          ++ answer_numbers (changed_series 1 0 (word 2 (1 + 2 ^ 7 * 3 + 2 ^ 19 * 2))) none
          ++ answer_numbers (changed_series 2 0 (word 2 (2 ^ 7 + 2 ^ 19 * 4))) none;
      published = pos 17 ∷ pos 2 ∷ pos 17 ∷ pos 0 ∷ pos 17 ∷ pos 1 ∷ pos 17 ∷ pos 2 ∷ [];
    }
    -- 20: no words, 257 records; 256 are no offence of this row
    ∷ record {
      computed = answer_numbers day [] ++ answer_numbers day (word 1 257 ∷ []) ++ answer_numbers day (word 1 256 ∷ []);
      published = pos 20 ∷ pos 0 ∷ pos 20 ∷ pos 0 ∷ pos 21 ∷ pos 0 ∷ [];
    }
    -- 21: a record too few, a word too many
    ∷ record { computed = answer_numbers day (word 1 1 ∷ []) ++ answer_numbers day (none ++ 0 ∷ []); published = pos 21 ∷ pos 0 ∷ pos 21 ∷ pos 0 ∷ [] }
    -- 22: a word of a wrong kind, at each place of a record, and behind it in another
    ∷ record {
      computed =
          answer_numbers day (set shares 7 (word 4 2)) ++ answer_numbers day (set shares 8 (word 2 1))
          ++ answer_numbers day (set shares 9 (word 3 0))
          ++ answer_numbers day (set shares 10 (word 6 0))
          ++ answer_numbers day (set shares 11 (word 5 0))
          ++ answer_numbers day (set shares 12 (word 7 0))
          ++ answer_numbers day (set (set shares 12 (word 5 0)) 1 (word 0 2));
      published =
          pos 22 ∷ pos 7 ∷ pos 22 ∷ pos 8 ∷ pos 22 ∷ pos 9 ∷ pos 22 ∷ pos 10 ∷ pos 22 ∷ pos 11 ∷ pos 22 ∷ pos 12 ∷ pos 22 ∷ pos 1 ∷ [];
    }
    -- 27: a spare bit of the key, both quantities above their limit; by the amount's first word each end of its spare bits and a DVP above its limit of either sign
    ∷ record {
      computed =
          answer_numbers day (set shares 7 (word 2 (2 + 2 ^ 10))) ++ answer_numbers day (set shares 8 too_many)
          ++ answer_numbers day (set shares 9 too_many)
          ++ answer_numbers day (set shares 10 (word 5 (2 ^ 5)))
          ++ answer_numbers day (set shares 10 (word 5 (2 ^ 27)))
          ++ answer_numbers day (held (position_record 2 0 1 (pos 5000000000000001)))
          ++ answer_numbers day (held (position_record 2 0 1 (neg_ℤ (pos 5000000000000001))));
      published =
          pos 27 ∷ pos 7 ∷ pos 27 ∷ pos 8 ∷ pos 27 ∷ pos 9 ∷ pos 27 ∷ pos 10 ∷ pos 27 ∷ pos 10 ∷ pos 27 ∷ pos 10 ∷ pos 27 ∷ pos 10 ∷ [];
    }
    -- 28: minus zero, in either record
    ∷ record {
      computed = answer_numbers day (set shares 4 sign_alone) ++ answer_numbers day (set shares 10 sign_alone);
      published = pos 28 ∷ pos 4 ∷ pos 28 ∷ pos 10 ∷ [];
    }
    -- 22, 27 and 28, each over the whole batch: too many in record 1; with minus zero in record 0; that alone; with a last word of kind 5
    ∷ record {
      computed =
          answer_numbers day (set shares 8 too_many) ++ answer_numbers day (set (set shares 8 too_many) 4 sign_alone)
          ++ answer_numbers day (set shares 4 sign_alone)
          ++ answer_numbers day (set (set shares 4 sign_alone) 12 (word 5 0))
          ++ answer_numbers day (set (set (set shares 8 too_many) 4 sign_alone) 12 (word 5 0));
      published = pos 27 ∷ pos 8 ∷ pos 27 ∷ pos 8 ∷ pos 28 ∷ pos 4 ∷ pos 22 ∷ pos 12 ∷ pos 22 ∷ pos 12 ∷ [];
    }
    -- minus zero in record 1 before a fourth series in record 0
    ∷ record { computed = answer_numbers day (set (set shares 1 (word 2 3)) 10 sign_alone); published = pos 28 ∷ pos 10 ∷ [] }
    -- 23: a fourth series
    ∷ record { computed = answer_numbers day (held (position_record 3 0 1 (pos 0))); published = pos 23 ∷ pos 1 ∷ [] }
    -- 24: the future exercised, the share exercised
    ∷ record {
      computed =
          answer_numbers day (held (position_record (2 ^ 8) 0 1 (pos 0))) ++ answer_numbers day (held (position_record (2 + 2 ^ 8) 0 1 (pos 0)));
      published = pos 24 ∷ pos 1 ∷ pos 24 ∷ pos 1 ∷ [];
    }
    -- 25: the future and the call as fails
    ∷ record {
      computed =
          answer_numbers day (held (position_record (2 ^ 9) 0 1 (pos 0))) ++ answer_numbers day (held (position_record (1 + 2 ^ 9) 0 1 (pos 0)));
      published = pos 25 ∷ pos 1 ∷ pos 25 ∷ pos 1 ∷ [];
    }
    -- 26: a DVP of the future and of the call
    ∷ record {
      computed = answer_numbers day (held (position_record 0 0 1 (pos 1))) ++ answer_numbers day (held (position_record 1 0 1 (pos 1)));
      published = pos 26 ∷ pos 1 ∷ pos 26 ∷ pos 1 ∷ [];
    }
    -- 30: 10,000,001 calls in two records, of which the first is the place
    ∷ record {
      computed =
          answer_numbers day
          (batch_file 3 (position_record 2 1 0 (pos 0) ++ (position_record 1 0 10000000 (pos 0) ++ position_record 1 0 1 (pos 0))));
      published = pos 30 ∷ pos 1 ∷ [];
    }
    -- 40: twelve words for a report of thirteen
    ∷ record { computed = numbers_of (answer day none [] 12); published = pos 40 ∷ pos 13 ∷ [] }
    ∷ []

pub refusals_agree : all_computed refusals ≡ all_published refusals
unfolding refusals everything
refusals_agree = refl

-- the longest forms in words: rows 1 and 2 take so many and no more, and a report's memory needs no more
pub longest_day_lem : (l : List ℕ) → row1 l ≡ ltb 0 (length l % 4) || ltb (4 * 5121) (length l)
unfolding row1
longest_day_lem l = refl

pub longest_batch_lem : (l : List ℕ) → row2 l ≡ ltb 0 (length l % 4) || ltb (4 * 1537) (length l)
unfolding row2
longest_batch_lem l = refl

pub longest_report_lem : longest_report ≡ 1115
longest_report_lem = refl
