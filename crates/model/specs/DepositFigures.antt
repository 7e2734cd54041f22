-- U5 at work: the reading's class of futures with deposits of 0, 750, 1,000 and 1,300 shares, a short that is covered whole, and rows 50 and 51.
use Rattle.std.specs.Prelude.{◌≡◌, refl, List, [], ◌∷◌, ◌++◌, map, ℕ, ◌^◌, ℤ, pos, replicate}
use Rattle.model.specs.Netting.{position, dvp}
use Rattle.model.specs.Reading.{count_in}
use Rattle.model.specs.Steps.{covered, spread, minimum, margin, line_amounts}
use Rattle.model.specs.Report.{longest_report}
use Rattle.model.specs.Calls.{net_after, report, answer}
use Rattle.model.specs.Accounts.{Figure, all_computed, all_published, minus, ten, no_rates, day_file, class_record, series_record, batch_file, position_record, numbers_of}
use Rattle.model.specs.Cases.{types}
use Rattle.model.specs.Computing.{everything}

-- ---- the accounts

-- a future of class n with its expiry and multiplier, all prices 0
abbrev future : ℕ → ℕ → ℕ → List ℕ
future n expiry multiplier = series_record n 1 expiry multiplier (0 ∷ 0 ∷ []) (ten 0)

-- March, June, September and December, multiplier 100; spread rates 300 and 200, futures minimum 1
abbrev four_futures : List ℕ
four_futures =
    day_file 1 4
    (class_record 6 0 (0 ∷ 3000000 ∷ 2000000 ∷ 0 ∷ 10000 ∷ replicate 3 0) 0 (ten 0)
    ++ (future 0 3 100 ++ (future 0 6 100 ++ (future 0 9 100 ++ future 0 12 100))))

-- March 3, June 5 and September 5 short, December 4 long
abbrev four_held : List ℕ
four_held =
    batch_file 4
    (position_record 0 0 3 (pos 0)
    ++ (position_record 1 0 5 (pos 0) ++ (position_record 2 0 5 (pos 0) ++ position_record 3 4 0 (pos 0))))

-- March 3 short alone
abbrev one_held : List ℕ
one_held = batch_file 1 (position_record 0 0 3 (pos 0))

abbrev none_held : List ℕ
none_held = batch_file 0 []

-- class 0 without futures, and class 1 with two, of multipliers 100 and 50
abbrev unlike_futures : List ℕ
unlike_futures =
    day_file 2 2 (class_record 0 0 no_rates 0 (ten 0) ++ (class_record 0 1 no_rates 0 (ten 0) ++ (future 1 3 100 ++ future 1 6 50)))

-- ---- what follows from deposits x

-- the nets after cover of the four futures
abbrev nets : List ℕ → List ℤ
nets x = net_after four_futures four_held x 0 ∷ net_after four_futures four_held x 1 ∷ net_after four_futures four_held x 2 ∷ net_after four_futures four_held x 3 ∷ []

-- their spread, minimum and margin
abbrev amounts : List ℕ → List ℤ
amounts x =
    spread four_futures (net_after four_futures four_held x) 0 0
    ∷ minimum four_futures (net_after four_futures four_held x) 0 0
    ∷ margin four_futures (net_after four_futures four_held x) (dvp four_held) 0 6
    ∷ []

-- the two numbers of the answer, with memory for the longest report
abbrev answer_with : List ℕ → List ℕ → List ℕ → List ℤ
answer_with d b x = numbers_of (answer d b x longest_report)

-- one statement a deposit, as each computes the nets anew

-- no deposit: spread 1,900, minimum 9, margin 1,909
pub cover_0 : nets [] ++ amounts [] ≡ pos 3 ∷ pos 5 ∷ pos 5 ∷ minus 4 ∷ pos 19000000 ∷ pos 90000 ∷ pos 19090000 ∷ []
unfolding everything
cover_0 = refl

-- 750 shares cover 7: September 0, June 3; spread 1,900, minimum 2, margin 1,902
pub cover_750 : nets (0 ∷ 750 ∷ []) ++ amounts (0 ∷ 750 ∷ []) ≡ pos 3 ∷ pos 3 ∷ pos 0 ∷ minus 4 ∷ pos 19000000 ∷ pos 20000 ∷ pos 19020000 ∷ []
unfolding everything
cover_750 = refl

-- 1,000 shares: March 3 against December 4; spread 1,500, minimum 1
pub cover_1000 : nets (0 ∷ 1000 ∷ []) ++ amounts (0 ∷ 1000 ∷ []) ≡ pos 3 ∷ pos 0 ∷ pos 0 ∷ minus 4 ∷ pos 15000000 ∷ pos 10000 ∷ pos 15010000 ∷ []
unfolding everything
cover_1000 = refl

-- 1,300 shares cover all that is short: spread 0, minimum 4
pub cover_1300 : nets (0 ∷ 1300 ∷ []) ++ amounts (0 ∷ 1300 ∷ []) ≡ pos 0 ∷ pos 0 ∷ pos 0 ∷ minus 4 ∷ pos 0 ∷ pos 40000 ∷ pos 40000 ∷ []
unfolding everything
cover_1300 = refl

-- a short covered whole: the report counts its line, whose amounts are all 0
pub cover_whole : pos (count_in (report four_futures one_held (0 ∷ 300 ∷ []))) ∷ line_amounts four_futures (net_after four_futures one_held (0 ∷ 300 ∷ [])) (dvp one_held) 0 6 ≡ pos 1 ∷ replicate 6 (pos 0)
unfolding everything
cover_whole = refl

-- nets of 5 everywhere: of these six types the open future alone is covered, and neither exercised or assigned positions nor the fail book are
abbrev five : ℕ → ℤ
five p = covered types (0 ∷ 7 ∷ []) (λ q. pos 5) p

pub cover_futures-alone : five 0 ∷ five 1 ∷ five 2 ∷ five 3 ∷ five 4 ∷ five 5 ∷ five (position 0 1 0) ∷ five (position 1 0 0) ∷ five (position 1 1 0) ∷ []
    ≡ pos 0 ∷ replicate 8 (pos 5)
unfolding everything
cover_futures-alone = refl

unfoldable pub lodged : List Figure
lodged =
    -- the accounts above are accepted; a short covered whole keeps its line
    record {
      computed =
          answer_with four_futures four_held [] ++ answer_with four_futures four_held (0 ∷ 750 ∷ []) ++ answer_with four_futures four_held (0 ∷ 1000 ∷ [])
          ++ answer_with four_futures four_held (0 ∷ 1300 ∷ [])
          ++ answer_with four_futures one_held (0 ∷ 300 ∷ []);
      published = map pos (0 ∷ 32 ∷ 0 ∷ 32 ∷ 0 ∷ 32 ∷ 0 ∷ 32 ∷ 0 ∷ 32 ∷ []);
    }
    -- 50: one word alone; three, though the first deposit is bad too
    ∷ record { computed = answer_with four_futures none_held (0 ∷ []) ++ answer_with four_futures none_held (0 ∷ 1 ∷ 0 ∷ []); published = map pos (50 ∷ 0 ∷ 50 ∷ 0 ∷ []) }
    -- 50: a class named twice; an unknown one; class 0 with a stray high bit
    ∷ record {
      computed = answer_with four_futures none_held (0 ∷ 100 ∷ 0 ∷ 50 ∷ []) ++ answer_with four_futures none_held (0 ∷ 100 ∷ 1 ∷ 50 ∷ []) ++ answer_with four_futures none_held (2 ^ 29 ∷ 100 ∷ []);
      published = map pos (50 ∷ 1 ∷ 50 ∷ 1 ∷ 50 ∷ 0 ∷ []);
    }
    -- 10,000,000 shares are accepted, one more is 50
    ∷ record {
      computed = answer_with four_futures none_held (0 ∷ 10000000 ∷ []) ++ answer_with four_futures none_held (0 ∷ 10000001 ∷ []);
      published = map pos (0 ∷ 13 ∷ 50 ∷ 0 ∷ []);
    }
    -- 51: a class named with 0 shares meets it too; a class without futures is accepted
    ∷ record {
      computed = answer_with unlike_futures none_held (0 ∷ 5 ∷ 1 ∷ 0 ∷ []) ++ answer_with unlike_futures none_held (0 ∷ 5 ∷ []);
      published = map pos (51 ∷ 1 ∷ 0 ∷ 13 ∷ []);
    }
    -- 50 over all deposits before 51
    ∷ record { computed = answer_with unlike_futures none_held (1 ∷ 5 ∷ 0 ∷ 5 ∷ 0 ∷ 5 ∷ []); published = map pos (50 ∷ 2 ∷ []) }
    -- 30 before 50, 50 and 51 before 40
    ∷ record {
      computed =
          answer_with four_futures (batch_file 1 (position_record 0 0 100001 (pos 0))) (0 ∷ [])
          ++ numbers_of (answer four_futures none_held (0 ∷ []) 0)
          ++ numbers_of (answer unlike_futures none_held (1 ∷ 5 ∷ []) 0)
          ++ numbers_of (answer four_futures none_held (0 ∷ 5 ∷ []) 0);
      published = map pos (30 ∷ 0 ∷ 50 ∷ 0 ∷ 51 ∷ 0 ∷ 40 ∷ 13 ∷ []);
    }
    ∷ []

pub lodged_agree : all_computed lodged ≡ all_published lodged
unfolding lodged everything
lodged_agree = refl
