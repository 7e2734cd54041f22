-- U3 at work: M5's calls and puts like them with a short option adjustment, where it counts and where it does not, and the rows that test it.
-- Each figure of an account begins with the call's number, 0: the account is accepted.
use Rattle.std.specs.Prelude.{◌≡◌, refl, List, [], ◌∷◌, ◌++◌, map, ℕ, ◌+◌, ◌^◌, ℤ, pos, replicate, set}
use Rattle.model.specs.Words.{word}
use Rattle.model.specs.Accounts.{Figure, all_computed, all_published, minus, ten, no_rates, day_file, class_record, adjusted_record, batch_file, position_record, line_of, class_points, answer_numbers, status}
use Rattle.model.specs.DayFile.{day_words}
use Rattle.model.specs.Cases.{types}
use Rattle.model.specs.Computing.{everything}

-- ---- the accounts

-- an option on 1,000 shares, its closing price, adjustment and theoretical prices
abbrev option : ℕ → ℕ → ℕ → List ℕ → List ℕ
option type closing a theoretical =
    day_file 1 1 (class_record 0 0 no_rates 0 (ten 0) ++ adjusted_record 0 type 0 1000 (0 ∷ closing ∷ []) a theoretical)

-- M5's call at 0.17: D5 0.04, U5 0.409
abbrev call : ℕ → List ℕ
call a = option 2 1700 a (400 ∷ 590 ∷ 790 ∷ 1030 ∷ 1330 ∷ 2060 ∷ 2500 ∷ 2990 ∷ 3520 ∷ 4090 ∷ [])

-- a put at 0.25: D5 0.50, U5 0.10
abbrev put : ℕ → List ℕ
put a = option 3 2500 a (5000 ∷ 4660 ∷ 4060 ∷ 3510 ∷ 3000 ∷ 2110 ∷ 1770 ∷ 1460 ∷ 1190 ∷ 1000 ∷ [])

-- ten of it short, and ten long
abbrev ten_short : List ℕ
ten_short = batch_file 1 (position_record 0 0 10 (pos 0))

abbrev ten_long : List ℕ
ten_long = batch_file 1 (position_record 0 10 0 (pos 0))

-- ten assigned, alone and beside one long
abbrev ten_assigned : List ℕ
ten_assigned = batch_file 1 (position_record (2 ^ 8) 0 10 (pos 0))

abbrev assigned_and_long : List ℕ
assigned_and_long = batch_file 2 (position_record (2 ^ 8) 0 10 (pos 0) ++ position_record 0 1 0 (pos 0))

-- the call with another word for its adjustment, and a series of each type with an adjustment of 1 unit for the one at place s
abbrev adjustment_word : ℕ → List ℕ
adjustment_word w = set (call 0) (day_words 1 0 + 4) w

abbrev adjusted : ℕ → List ℕ
adjusted s = set types (day_words 1 s + 4) (word 3 1)

-- ---- what the account gets

-- whether it is accepted, and its line
abbrev line : List ℕ → List ℕ → List ℤ
line d b = status d b ∷ line_of d b 0

-- whether it is accepted, and its amounts at the ten points
abbrev points : List ℕ → List ℕ → List ℤ
points d b = status d b ∷ class_points d b 0

unfoldable pub adjustments : List Figure
adjustments =
    -- ten short calls, adjustment 0.5: premium 1,700, U5 3,300, margin 5,000
    record { computed = line (call 5000) ten_short; published = map pos (0 ∷ 0 ∷ 0 ∷ 17000000 ∷ 33000000 ∷ 50000000 ∷ 0 ∷ []) }
    -- adjustment 0.4, below U5: 2,390 and 4,090 as without it
    ∷ record { computed = line (call 4000) ten_short; published = map pos (0 ∷ 0 ∷ 0 ∷ 17000000 ∷ 23900000 ∷ 40900000 ∷ 0 ∷ []) }
    ∷ record { computed = line (call 0) ten_short; published = map pos (0 ∷ 0 ∷ 0 ∷ 17000000 ∷ 23900000 ∷ 40900000 ∷ 0 ∷ []) }
    -- ten long, adjustment 0.5: premium −1,700, additional 1,300 at D5, residual 400
    ∷ record {
      computed = line (call 5000) ten_long;
      published = pos 0 ∷ pos 0 ∷ pos 0 ∷ minus 17000000 ∷ pos 13000000 ∷ pos 0 ∷ pos 4000000 ∷ [];
    }
    -- a call is adjusted at U5 alone, and only where it is short
    ∷ record {
      computed = points (call 5000) ten_short;
      published =
          pos 0
          ∷ minus 13000000
          ∷ minus 11100000
          ∷ minus 9100000
          ∷ minus 6700000
          ∷ minus 3700000
          ∷ map pos (3600000 ∷ 8000000 ∷ 12900000 ∷ 18200000 ∷ 33000000 ∷ []);
    }
    ∷ record {
      computed = points (call 5000) ten_long;
      published =
          map pos (0 ∷ 13000000 ∷ 11100000 ∷ 9100000 ∷ 6700000 ∷ 3700000 ∷ [])
          ++ (minus 3600000 ∷ minus 8000000 ∷ minus 12900000 ∷ minus 18200000 ∷ minus 23900000 ∷ []);
    }
    -- a put at D5 alone: adjustment 0.6 for 0.5
    ∷ record {
      computed = points (put 6000) ten_short;
      published =
          map pos (0 ∷ 35000000 ∷ 21600000 ∷ 15600000 ∷ 10100000 ∷ 5000000 ∷ [])
          ++ (minus 3900000 ∷ minus 7300000 ∷ minus 10400000 ∷ minus 13100000 ∷ minus 15000000 ∷ []);
    }
    ∷ record {
      computed = points (put 6000) ten_long;
      published =
          pos 0
          ∷ minus 25000000
          ∷ minus 21600000
          ∷ minus 15600000
          ∷ minus 10100000
          ∷ minus 5000000
          ∷ map pos (3900000 ∷ 7300000 ∷ 10400000 ∷ 13100000 ∷ 15000000 ∷ []);
    }
    -- assigned ones are never adjusted: projected prices of 0 add 0; nor do they make a long one short
    ∷ record { computed = points (call 5000) ten_assigned ++ points (put 6000) ten_assigned; published = map pos (replicate 22 0) }
    ∷ record {
      computed = points (call 5000) assigned_and_long;
      published =
          map pos (0 ∷ 1300000 ∷ 1110000 ∷ 910000 ∷ 670000 ∷ 370000 ∷ [])
          ++ (minus 360000 ∷ minus 800000 ∷ minus 1290000 ∷ minus 1820000 ∷ minus 2390000 ∷ []);
    }
    -- the highest adjustment: 50,000 − 0.17 a share
    ∷ record { computed = line (call 500000000) ten_short; published = map pos (0 ∷ 0 ∷ 0 ∷ 17000000 ∷ 4999983000000 ∷ 5000000000000 ∷ 0 ∷ []) }
    -- 12: one unit more, and another kind
    ∷ record {
      computed = answer_numbers (adjustment_word (word 3 500000001)) ten_short ++ answer_numbers (adjustment_word (word 4 0)) ten_short;
      published = map pos (12 ∷ 1 ∷ 12 ∷ 1 ∷ []);
    }
    -- 17: on a future, an equity, a warrant and a rights issue; a call and a put are accepted
    ∷ record {
      computed =
          answer_numbers (adjusted 0) ten_short ++ answer_numbers (adjusted 3) ten_short
          ++ answer_numbers (adjusted 4) ten_short
          ++ answer_numbers (adjusted 5) ten_short
          ++ answer_numbers (adjusted 1) ten_short
          ++ answer_numbers (adjusted 2) ten_short;
      published = map pos (17 ∷ 0 ∷ 17 ∷ 3 ∷ 17 ∷ 4 ∷ 17 ∷ 5 ∷ 0 ∷ 32 ∷ 0 ∷ 32 ∷ []);
    }
    ∷ []

pub adjustments_agree : all_computed adjustments ≡ all_published adjustments
unfolding adjustments everything
adjustments_agree = refl
