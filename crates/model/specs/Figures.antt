-- The figures M1 to M9 of the scope: what the definitions compute, beside what the paper prints. Amounts are in ten-thousandths of a euro.
-- Each figure of an account begins with the call's number, 0: the account is accepted.
use Rattle.std.specs.Prelude.{◌≡◌, refl, List, [], ◌∷◌, ◌++◌, ℕ, ◌^◌, ℤ, pos, replicate}
use Rattle.model.specs.DayFile.{offset}
use Rattle.model.specs.Netting.{net, dvp}
use Rattle.model.specs.Steps.{after_offset, spread_quantity, spot_spread, non_spot_spread, spread, non_spread, mtm, premium, class_point, group_point, group_mtm}
use Rattle.model.specs.Report.{line_count}
use Rattle.model.specs.Accounts.{Figure, all_computed, all_published, minus, ten, no_rates, day_file, class_record, series_record, batch_file, position_record, line_of, answer_numbers, status, percent}
use Rattle.model.specs.Computing.{everything}

-- ---- M1: four futures, spot rate 300, non-spot rate 200

abbrev pub futures : List ℕ
futures =
    day_file 1 4
    (class_record 0 0 (0 ∷ 3000000 ∷ 2000000 ∷ replicate 5 0) 0 (ten 0)
    ++ (series_record 0 1 3 1 (0 ∷ 0 ∷ []) (ten 0)
    ++ (series_record 0 1 6 1 (0 ∷ 0 ∷ []) (ten 0)
    ++ (series_record 0 1 9 1 (0 ∷ 0 ∷ []) (ten 0) ++ series_record 0 1 12 1 (0 ∷ 0 ∷ []) (ten 0)))))

abbrev futures_held : List ℕ
futures_held =
    batch_file 4
    (position_record 0 0 15 (pos 0)
    ++ (position_record 1 14 0 (pos 0) ++ (position_record 2 19 0 (pos 0) ++ position_record 3 0 13 (pos 0))))

-- ---- M2: two exercised calls, strike 5.1125, underlying 5.2689, D5 4.9001, U5 5.6377

abbrev pub calls : List ℕ
calls =
    day_file 1 1
    (class_record 0 0 (52689 ∷ replicate 7 0) 0 (49001 ∷ (replicate 8 52689 ++ 56377 ∷ []))
    ++ series_record 0 2 0 5000 (51125 ∷ 0 ∷ []) (ten 0))

abbrev pub calls_exercised : List ℕ
calls_exercised = batch_file 1 (position_record (2 ^ 8) 2 0 (pos 0))

-- ---- M3: 200 shares long at 40, DVP −8,150; class 0 in group 3, equity rate 1 euro, multiplier 1

abbrev pub share : List ℕ
share =
    day_file 1 1
    (class_record 3 0 (replicate 5 0 ++ 10000 ∷ 0 ∷ 0 ∷ []) 0 (ten 0)
    ++ series_record 0 4 0 1 (0 ∷ 400000 ∷ [])
    (360000 ∷ 368000 ∷ 376000 ∷ 384000 ∷ 392000 ∷ 408000 ∷ 416000 ∷ 424000 ∷ 432000 ∷ 440000 ∷ []))

abbrev pub share_held : List ℕ
share_held = batch_file 1 (position_record 0 200 0 (minus 81500000))

-- ---- M4: three classes of a group, offset 50%, each with one share short; closing prices 2,500

abbrev group4 : List ℕ
group4 =
    day_file 3 3
    (class_record 5 0 no_rates (percent 50) (ten 0)
    ++ (class_record 5 1 no_rates (percent 50) (ten 0)
    ++ (class_record 5 2 no_rates (percent 50) (ten 0)
    ++ (series_record 0 4 0 1 (0 ∷ 25000000 ∷ []) (45000000 ∷ 50000000 ∷ replicate 8 25000000)
    ++ (series_record 1 4 0 1 (0 ∷ 25000000 ∷ []) (5000000 ∷ 9000000 ∷ replicate 8 25000000)
    ++ series_record 2 4 0 1 (0 ∷ 25000000 ∷ []) (23000000 ∷ 23400000 ∷ replicate 8 25000000))))))

abbrev group_held : List ℕ
group_held =
    batch_file 3 (position_record 0 0 1 (pos 0) ++ (position_record 1 0 1 (pos 0) ++ position_record 2 0 1 (pos 0)))

-- the three arrays at point k: before the offset, after it, and their sum
abbrev group_arrays : ℕ → List ℤ
group_arrays k =
    class_point group4 (net group_held) 0 0 k
    ∷ class_point group4 (net group_held) 0 1 k
    ∷ class_point group4 (net group_held) 0 2 k
    ∷ after_offset (offset group4 0) (class_point group4 (net group_held) 0 0 k)
    ∷ after_offset (offset group4 1) (class_point group4 (net group_held) 0 1 k)
    ∷ after_offset (offset group4 2) (class_point group4 (net group_held) 0 2 k)
    ∷ group_point group4 (net group_held) 0 5 k
    ∷ []

-- ---- M5: ten short calls at 0.17, multiplier 1,000, U5 0.409

abbrev short_calls : List ℕ
short_calls =
    day_file 1 1 (class_record 0 0 no_rates 0 (ten 0) ++ series_record 0 2 0 1000 (0 ∷ 1700 ∷ []) (replicate 9 1700 ++ 4090 ∷ []))

abbrev short_calls_held : List ℕ
short_calls_held = batch_file 1 (position_record 0 0 10 (pos 0))

-- ---- M6: a share bought and sold with DVP −150, and a long call at 891.40, D5 581.60

abbrev pub credit : List ℕ
credit =
    day_file 1 2
    (class_record 7 0 no_rates 0 (ten 0)
    ++ (series_record 0 2 0 1 (0 ∷ 8914000 ∷ []) (5816000 ∷ replicate 9 8914000) ++ series_record 0 4 0 1 (0 ∷ 0 ∷ []) (ten 0)))

abbrev credit_held : List ℕ
credit_held = batch_file 2 (position_record 0 1 0 (pos 0) ++ position_record 1 0 0 (minus 1500000))

-- ---- M8: multiplier 10,000

abbrev pub large : List ℕ
large = day_file 1 1 (class_record 0 0 no_rates 0 (ten 0) ++ series_record 0 4 0 10000 (0 ∷ 0 ∷ []) (ten 0))

abbrev pub large_held : ℕ → List ℕ
large_held q = batch_file 1 (position_record 0 0 q (pos 0))

-- ---- M9: a share bought and sold, DVP 10; a future bought and sold

abbrev two : List ℕ
two =
    day_file 1 2
    (class_record 2 0 no_rates 0 (ten 0) ++ (series_record 0 1 0 1 (0 ∷ 0 ∷ []) (ten 0) ++ series_record 0 4 0 1 (0 ∷ 0 ∷ []) (ten 0)))

abbrev share_traded : List ℕ
share_traded = batch_file 1 (position_record 1 3 3 (pos 100000))

abbrev future_traded : List ℕ
future_traded = batch_file 1 (position_record 0 3 3 (pos 0))

-- ---- the list, M1 to M9 in order

unfoldable pub figures : List Figure
figures =
    record {
      computed =
          status futures futures_held
          ∷ spread_quantity futures (net futures_held) 0 0
          ∷ spot_spread futures (net futures_held) 0 0
          ∷ non_spot_spread futures (net futures_held) 0 0
          ∷ spread futures (net futures_held) 0 0
          ∷ non_spread futures (net futures_held) 0 0 0
          ∷ non_spread futures (net futures_held) 0 0 1
          ∷ non_spread futures (net futures_held) 0 0 2
          ∷ non_spread futures (net futures_held) 0 0 3
          ∷ [];
      published = pos 0 ∷ pos 28 ∷ pos 15 ∷ pos 41 ∷ pos 127000000 ∷ pos 0 ∷ pos 0 ∷ minus 5 ∷ pos 0 ∷ [];
    }
    ∷ record {
      computed =
          status calls calls_exercised
          ∷ premium calls (net calls_exercised) 0 0
          ∷ class_point calls (net calls_exercised) 0 0 9
          ∷ class_point calls (net calls_exercised) 0 0 0
          ∷ [];
      published = pos 0 ∷ minus 15640000 ∷ minus 36880000 ∷ pos 36880000 ∷ [];
    }
    ∷ record {
      computed = status share share_held ∷ mtm share (net share_held) (dvp share_held) 0 0 ∷ class_point share (net share_held) 0 0 0 ∷ [];
      published = pos 0 ∷ pos 1500000 ∷ pos 8000000 ∷ [];
    }
    ∷ record {
      computed = status group4 group_held ∷ (group_arrays 0 ++ group_arrays 1);
      published =
          pos 0
          ∷ (pos 20000000 ∷ minus 20000000 ∷ minus 2000000 ∷ pos 20000000 ∷ minus 10000000 ∷ minus 1000000 ∷ pos 9000000 ∷ [])
          ++ (pos 25000000 ∷ minus 16000000 ∷ minus 1600000 ∷ pos 25000000 ∷ minus 8000000 ∷ minus 800000 ∷ pos 16200000 ∷ []);
    }
    ∷ record {
      computed =
          status short_calls short_calls_held
          ∷ premium short_calls (net short_calls_held) 0 0
          ∷ class_point short_calls (net short_calls_held) 0 0 9
          ∷ [];
      published = pos 0 ∷ pos 17000000 ∷ pos 23900000 ∷ [];
    }
    ∷ record {
      computed = status credit credit_held ∷ line_of credit credit_held 7;
      published = pos 0 ∷ pos 0 ∷ pos 1500000 ∷ minus 8914000 ∷ pos 3098000 ∷ pos 0 ∷ pos 4316000 ∷ [];
    }
    ∷ record { computed = after_offset 8500 (minus 101) ∷ after_offset 8500 (minus 1) ∷ []; published = minus 85 ∷ pos 0 ∷ [] }
    ∷ record {
      computed = answer_numbers large (large_held 1000) ++ answer_numbers large (large_held 1001);
      published = pos 0 ∷ pos 32 ∷ pos 30 ∷ pos 0 ∷ [];
    }
    ∷ record {
      computed =
          status two share_traded
          ∷ pos (line_count two (net share_traded) (dvp share_traded))
          ∷ group_mtm two (net share_traded) (dvp share_traded) 0 2
          ∷ status two future_traded
          ∷ pos (line_count two (net future_traded) (dvp future_traded))
          ∷ [];
      published = pos 0 ∷ pos 1 ∷ minus 100000 ∷ pos 0 ∷ pos 0 ∷ [];
    }
    ∷ []

pub figures_agree : all_computed figures ≡ all_published figures
unfolding figures everything
figures_agree = refl
