-- U9 at work: the reading's two accounts of expired futures, what they take no part in, and the rows that refuse them.
use Rattle.std.specs.Prelude.{◌≡◌, refl, List, [], ◌∷◌, ◌++◌, map, ℕ, ◌+◌, ◌*◌, ◌^◌, ℤ, pos, replicate, set}
use Rattle.model.specs.Words.{word}
use Rattle.model.specs.DayFile.{day_words}
use Rattle.model.specs.Netting.{dvp}
use Rattle.model.specs.Steps.{spread, minimum, line_amounts}
use Rattle.model.specs.Report.{longest_report}
use Rattle.model.specs.Calls.{net_after, answer}
use Rattle.model.specs.Accounts.{Figure, all_computed, all_published, minus, ten, no_rates, day_file, class_record, adjusted_record, series_record, batch_file, position_record, numbers_of, answer_numbers}
use Rattle.model.specs.Computing.{everything}

-- ---- the accounts

-- an expired future of class 0 with its expiry, multiplier and delivery price; nothing reads its closing price 7 and its theoretical prices 9
abbrev expired : ℕ → ℕ → ℕ → List ℕ
expired expiry multiplier delivery = series_record 0 8 expiry multiplier (delivery ∷ 70000 ∷ []) (ten 90000)

-- an open one, all prices 0
abbrev future : ℕ → ℕ → List ℕ
future expiry multiplier = series_record 0 1 expiry multiplier (0 ∷ 0 ∷ []) (ten 0)

-- underlying 5.50, D5 5.20 and U5 6.00, every rate 1,000
abbrev class : List ℕ
class = class_record 6 0 (55000 ∷ replicate 7 10000000) 0 (52000 ∷ (replicate 8 55000 ++ 60000 ∷ []))

-- an expired future alone: multiplier 100, delivery price 5.00
abbrev alone : List ℕ
alone = day_file 1 1 (class ++ expired 3 100 50000)

-- so many long and short of the series at place s
abbrev held : ℕ → ℕ → ℕ → List ℕ
held s long short = position_record s long short (pos 0)

abbrev one : ℕ → ℕ → List ℕ
one long short = batch_file 1 (held 0 long short)

-- whether the account is accepted with deposits x, and its line
abbrev line_with : List ℕ → List ℕ → List ℤ
line_with b x = numbers_of (answer alone b x longest_report) ++ line_amounts alone (net_after alone b x) (dvp b) 0 6

-- open March at place 0, expired March at places 1 and 2, expired June at place 3, multiplier 1
abbrev march_and_june : List ℕ
march_and_june =
    day_file 1 4 (class_record 6 0 no_rates 0 (ten 0) ++ (future 3 1 ++ (expired 3 1 10000 ++ (expired 3 1 20000 ++ expired 6 1 10000))))

-- the net shorts of the four after cover, before it these
abbrev shorts : ℕ → ℕ → ℕ → ℕ → List ℕ → List ℤ
shorts p q r t x =
    let b = batch_file 4 (held 0 0 p ++ (held 1 0 q ++ (held 2 0 r ++ held 3 0 t))) in
    net_after march_and_june b x 0 ∷ net_after march_and_june b x 1 ∷ net_after march_and_june b x 2 ∷ net_after march_and_june b x 3 ∷ []

-- 3 short of each
abbrev threes : ℕ → List ℤ
threes n = shorts 3 3 3 3 (0 ∷ n ∷ [])

-- 3 open ones short beside 3 expired ones long
abbrev opposed : List ℕ
opposed = day_file 1 2 (class ++ (future 3 1 ++ expired 6 1 50000))

abbrev opposed_held : List ℕ
opposed_held = batch_file 2 (held 0 0 3 ++ held 1 3 0)

-- the expired future alone with another key or adjustment; beside an open one of another multiplier
abbrev keyed : ℕ → List ℕ
keyed k = set alone (day_words 1 0) (word 2 k)

abbrev adjusted : List ℕ
adjusted = day_file 1 1 (class ++ adjusted_record 0 8 3 100 (50000 ∷ 0 ∷ []) 1 (ten 0))

abbrev unlike : List ℕ
unlike = day_file 1 2 (class ++ (future 3 50 ++ expired 3 100 50000))

abbrev none : List ℕ
none = batch_file 0 []

-- ---- the amounts of ten short: MTM 500, additional 500, margin 1,000
pub ten_short : line_with (one 0 10) [] ≡ map pos (0 ∷ 32 ∷ 0 ∷ 5000000 ∷ 0 ∷ 5000000 ∷ 10000000 ∷ 0 ∷ [])
unfolding everything
ten_short = refl

-- 450 shares cover 4: 300 + 300 = 600
pub four_covered : line_with (one 0 10) (0 ∷ 450 ∷ []) ≡ map pos (0 ∷ 32 ∷ 0 ∷ 3000000 ∷ 0 ∷ 3000000 ∷ 6000000 ∷ 0 ∷ [])
unfolding everything
four_covered = refl

-- 1,000 shares cover all: the line stays
pub all_covered : line_with (one 0 10) (0 ∷ 1000 ∷ []) ≡ map pos (0 ∷ 32 ∷ replicate 6 0)
unfolding everything
all_covered = refl

-- ten long are not covered: MTM −500, additional 300 at D5, residual 200
pub ten_long : line_with (one 10 0) (0 ∷ 1000 ∷ []) ≡ pos 0 ∷ pos 32 ∷ pos 0 ∷ minus 5000000 ∷ pos 0 ∷ pos 3000000 ∷ pos 0 ∷ pos 2000000 ∷ []
unfolding everything
ten_long = refl

-- ---- the order of cover

-- 5 shares: June 0, open March 1; 7: open March 0, place 1 has 2; 10: place 2 has 2
pub cover_order : threes 5 ++ threes 7 ++ threes 10 ≡ map pos (1 ∷ 3 ∷ 3 ∷ 0 ∷ 0 ∷ 2 ∷ 3 ∷ 0 ∷ 0 ∷ 0 ∷ 2 ∷ 0 ∷ [])
unfolding everything
cover_order = refl

-- a larger net goes first whatever it is of: 5 shares for March 3, 4 and 3 and June 2, then for open March 4
pub largest_first : shorts 3 4 3 2 (0 ∷ 5 ∷ []) ++ shorts 4 3 3 2 (0 ∷ 5 ∷ []) ≡ map pos (2 ∷ 0 ∷ 3 ∷ 2 ∷ 0 ∷ 2 ∷ 3 ∷ 2 ∷ [])
unfolding everything
largest_first = refl

-- ---- neither spread nor minimum: of the two nets no contract is spread, and the minimum is that of the open ones, 3,000
pub no_spread : spread opposed (net_after opposed opposed_held []) 0 0 ∷ minimum opposed (net_after opposed opposed_held []) 0 0 ∷ [] ≡ map pos (0 ∷ 30000000 ∷ [])
unfolding everything
no_spread = refl

-- ---- the rows

unfoldable pub expired_rows : List Figure
expired_rows =
    -- 17: a serial, an adjustment, type 7; any expiry is accepted
    record {
      computed =
          answer_numbers (keyed (1 + 2 ^ 7 * 3 + 2 ^ 19 * 8)) none ++ answer_numbers adjusted none
          ++ answer_numbers (keyed (2 ^ 7 * 3 + 2 ^ 19 * 7)) none
          ++ answer_numbers (keyed (2 ^ 7 * 4095 + 2 ^ 19 * 8)) none;
      published = map pos (17 ∷ 0 ∷ 17 ∷ 0 ∷ 17 ∷ 0 ∷ 0 ∷ 13 ∷ []);
    }
    -- 24, 25 and 26: exercised, a fail, a DVP
    ∷ record {
      computed =
          answer_numbers alone (batch_file 1 (held (2 ^ 8) 0 1)) ++ answer_numbers alone (batch_file 1 (held (2 ^ 9) 0 1))
          ++ answer_numbers alone (batch_file 1 (position_record 0 0 1 (pos 1)));
      published = map pos (24 ∷ 0 ∷ 25 ∷ 0 ∷ 26 ∷ 0 ∷ []);
    }
    -- 30 by the net before cover; 51 by the multipliers of an open and an expired one
    ∷ record {
      computed = numbers_of (answer alone (one 0 100001) (0 ∷ 10000000 ∷ []) longest_report) ++ numbers_of (answer unlike none (0 ∷ 5 ∷ []) longest_report);
      published = map pos (30 ∷ 0 ∷ 51 ∷ 0 ∷ []);
    }
    ∷ []

pub expired-rows_agree : all_computed expired_rows ≡ all_published expired_rows
unfolding expired_rows everything
expired-rows_agree = refl
