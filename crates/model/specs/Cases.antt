-- Accounts beside the papers' figures, for what no figure of theirs shows: the rate of each type, an exercised put, a line held by an exercised position alone, fields at their limits, a group in both books beside a residual credit.
use Rattle.std.specs.Prelude.{◌≡◌, refl, List, [], ◌∷◌, ◌++◌, ℕ, ◌+◌, ◌^◌, ℤ, pos, replicate, get_or}
use Rattle.model.specs.Netting.{net, dvp}
use Rattle.model.specs.Steps.{minimum, premium, class_point, total}
use Rattle.model.specs.Report.{line_count, line_words}
use Rattle.model.specs.Accounts.{Figure, all_computed, all_published, minus, ten, no_rates, day_file, class_record, series_record, batch_file, position_record, line_of, status}
use Rattle.model.specs.Figures.{credit}
use Rattle.model.specs.Computing.{everything}

-- one series of each type that has a minimum; rates 2, 3, 5, 7 and 11 units for options, futures, equities, warrants and rights
abbrev pub types : List ℕ
types =
    day_file 1 6
    (class_record 4 0 (0 ∷ 0 ∷ 0 ∷ 2 ∷ 3 ∷ 5 ∷ 7 ∷ 11 ∷ []) 0 (ten 0)
    ++ (series_record 0 1 3 1 (0 ∷ 0 ∷ []) (ten 0)
    ++ (series_record 0 2 3 1 (0 ∷ 0 ∷ []) (ten 0)
    ++ (series_record 0 3 3 1 (0 ∷ 0 ∷ []) (ten 0)
    ++ (series_record 0 4 0 1 (0 ∷ 0 ∷ []) (ten 0)
    ++ (series_record 0 5 0 1 (0 ∷ 0 ∷ []) (ten 0) ++ series_record 0 6 0 1 (0 ∷ 0 ∷ []) (ten 0)))))))

-- one contract short of the series at place s
abbrev one_short : ℕ → List ℕ
one_short s = batch_file 1 (position_record s 0 1 (pos 0))

-- whether the account is accepted, and its minimum
abbrev minimum_alone : ℕ → List ℤ
minimum_alone s = status types (one_short s) ∷ minimum types (net (one_short s)) 0 0 ∷ []

-- a put on 100 shares, strike 6, underlying 5, D5 4 and U5 6; two of them exercised
abbrev put : List ℕ
put =
    day_file 1 1
    (class_record 6 0 (50000 ∷ replicate 7 0) 0 (40000 ∷ (replicate 8 50000 ++ 60000 ∷ []))
    ++ series_record 0 3 3 100 (60000 ∷ 0 ∷ []) (ten 0))

abbrev puts_exercised : List ℕ
puts_exercised = batch_file 1 (position_record (2 ^ 8) 2 0 (pos 0))

-- classes 31 and 63 of groups 3 and 28, whose offsets differ; a share with the largest multiplier and price, and the largest DVP for it
abbrev edges : List ℕ
edges =
    day_file 2 1
    (class_record 3 31 no_rates 5000 (ten 0) ++ (class_record 28 63 no_rates 10000 (ten 0) ++ series_record 63 4 0 10000 (0 ∷ 500000000 ∷ []) (ten 0)))

abbrev edges_held : List ℕ
edges_held = batch_file 1 (position_record 0 0 0 (minus 5000000000000000))

-- M6's account, and its share's DVP of −150 as a fail too
abbrev both_held : List ℕ
both_held =
    batch_file 3 (position_record 0 1 0 (pos 0) ++ (position_record 1 0 0 (minus 1500000) ++ position_record (2 ^ 9 + 1) 0 0 (minus 1500000)))

-- the first word of the line of group 7 in book k
abbrev both_key : ℕ → ℕ
both_key k = get_or (line_words credit (net both_held) (dvp both_held) k 7) 0 0

unfoldable pub cases : List Figure
cases =
    -- the minimum of one short future, call, put, equity, warrant and rights issue, each alone
    record {
      computed = minimum_alone 0 ++ minimum_alone 1 ++ minimum_alone 2 ++ minimum_alone 3 ++ minimum_alone 4 ++ minimum_alone 5;
      published = pos 0 ∷ pos 3 ∷ pos 0 ∷ pos 2 ∷ pos 0 ∷ pos 2 ∷ pos 0 ∷ pos 5 ∷ pos 0 ∷ pos 7 ∷ pos 0 ∷ pos 11 ∷ [];
    }
    -- the puts: premium −200, −200 at D5 and 200 at U5
    ∷ record {
      computed =
          status put puts_exercised
          ∷ premium put (net puts_exercised) 0 0
          ∷ class_point put (net puts_exercised) 0 0 0
          ∷ class_point put (net puts_exercised) 0 0 9
          ∷ [];
      published = pos 0 ∷ minus 2000000 ∷ minus 2000000 ∷ pos 2000000 ∷ [];
    }
    -- they alone hold the line of group 6: premium −200, additional requirement 200, margin and residual 0
    ∷ record {
      computed = pos (line_count put (net puts_exercised) (dvp puts_exercised)) ∷ line_of put puts_exercised 6;
      published = pos 1 ∷ pos 0 ∷ pos 0 ∷ minus 2000000 ∷ pos 2000000 ∷ pos 0 ∷ pos 0 ∷ [];
    }
    -- fields at their limits are accepted: the DVP is the MTM and the margin of group 28
    ∷ record {
      computed = status edges edges_held ∷ line_of edges edges_held 28;
      published = pos 0 ∷ pos 0 ∷ pos 5000000000000000 ∷ pos 0 ∷ pos 0 ∷ pos 5000000000000000 ∷ pos 0 ∷ [];
    }
    -- the residual credit of 431.60 lowers no total: 0 and, for fail, 150; the keys of group 7 are 7 and, for fail, 7 + 32
    ∷ record {
      computed =
          status credit both_held
          ∷ total credit (net both_held) (net both_held) (dvp both_held) 0
          ∷ total credit (net both_held) (net both_held) (dvp both_held) 1
          ∷ pos (both_key 0)
          ∷ pos (both_key 1)
          ∷ [];
      published = pos 0 ∷ pos 0 ∷ pos 1500000 ∷ pos 1073741831 ∷ pos 1073741863 ∷ [];
    }
    ∷ []

pub cases_agree : all_computed cases ≡ all_published cases
unfolding cases everything
cases_agree = refl
