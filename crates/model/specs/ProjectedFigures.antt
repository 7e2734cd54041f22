-- U8 at work: row 18 at each of its eleven places, what it lets pass, and the rows before and behind it.
use Rattle.std.specs.Prelude.{◌≡◌, refl, List, [], ◌∷◌, ◌++◌, map, ℕ, ◌-◌, ℤ, pos, replicate, get_or, set}
use Rattle.model.specs.Accounts.{Figure, all_computed, all_published, ten, day_file, class_record, series_record, batch_file, answer_numbers}
use Rattle.model.specs.Computing.{everything}

-- from downside 5 to upside 5; downside 1 is 5.0 euro, upside 1 5.2
abbrev prices : List ℕ
prices = 46000 ∷ 47000 ∷ 48000 ∷ 49000 ∷ 50000 ∷ 52000 ∷ 53000 ∷ 54000 ∷ 55000 ∷ 56000 ∷ []

-- a class with underlying price u and these projected prices, number n, this offset
abbrev projecting : ℕ → ℕ → ℕ → List ℕ → List ℕ
projecting n o u l = class_record 2 n (u ∷ replicate 7 0) o l

-- the answer to that class alone, which the batch doesn't use
abbrev alone : ℕ → List ℕ → List ℤ
alone u l = answer_numbers (day_file 1 0 (projecting 0 0 u l)) (batch_file 0 [])

-- two classes of a group, with these offsets and projected prices
abbrev two : ℕ → ℕ → List ℕ → List ℕ → List ℤ
two o p l m = answer_numbers (day_file 2 0 (projecting 0 o 51000 l ++ projecting 1 p 51000 m)) (batch_file 0 [])

-- the price at point k one unit below the one before it, and equal to it
abbrev fallen : ℕ → List ℕ
fallen k = set prices k (get_or prices (k - 1) 0 - 1)

abbrev level : ℕ → List ℕ
level k = set prices k (get_or prices (k - 1) 0)

-- the vendor's file: upside 2 and downside 2 exchanged
abbrev exchanged : List ℕ
exchanged = set (set prices 3 53000) 6 49000

-- a class out of order whose series has another class's number
abbrev without_class : List ℤ
without_class =
    answer_numbers (day_file 1 1 (projecting 0 0 51000 exchanged ++ series_record 1 4 0 1 (0 ∷ 0 ∷ []) (ten 0))) (batch_file 0 [])

unfoldable pub projected_figures : List Figure
projected_figures =
    -- underlying prices of 5.0 and 5.2 pass; 4.9999 and 5.2001 are 18
    record {
      computed = alone 50000 prices ++ alone 52000 prices ++ alone 49999 prices ++ alone 52001 prices;
      published = map pos (0 ∷ 13 ∷ 0 ∷ 13 ∷ 18 ∷ 0 ∷ 18 ∷ 0 ∷ []);
    }
    -- a price one unit below the one before it, from downside 4 to upside 5
    ∷ record {
      computed =
          alone 51000 (fallen 1) ++ alone 51000 (fallen 2) ++ alone 51000 (fallen 3) ++ alone 51000 (fallen 4) ++ alone 51000 (fallen 5)
          ++ alone 51000 (fallen 6)
          ++ alone 51000 (fallen 7)
          ++ alone 51000 (fallen 8)
          ++ alone 51000 (fallen 9);
      published =
          map pos (18 ∷ 0 ∷ 18 ∷ 0 ∷ 18 ∷ 0 ∷ 18 ∷ 0 ∷ 18 ∷ 0 ∷ 18 ∷ 0 ∷ 18 ∷ 0 ∷ 18 ∷ 0 ∷ 18 ∷ 0 ∷ []);
    }
    -- equal to it; the prices next to the underlying price all three equal, and all ten
    ∷ record {
      computed =
          alone 51000 (level 1) ++ alone 51000 (level 2) ++ alone 51000 (level 3) ++ alone 50000 (level 5) ++ alone 51000 (level 6)
          ++ alone 51000 (level 9)
          ++ alone 51000 (ten 51000);
      published = map pos (0 ∷ 13 ∷ 0 ∷ 13 ∷ 0 ∷ 13 ∷ 0 ∷ 13 ∷ 0 ∷ 13 ∷ 0 ∷ 13 ∷ 0 ∷ 13 ∷ []);
    }
    -- the vendor's file, in the first class and in the second; offsets that differ are found before, a class that is absent behind
    ∷ record {
      computed = two 0 0 exchanged prices ++ two 0 0 prices exchanged ++ two 0 1 exchanged prices ++ without_class;
      published = map pos (18 ∷ 0 ∷ 18 ∷ 1 ∷ 14 ∷ 1 ∷ 18 ∷ 0 ∷ []);
    }
    ∷ []

pub projected-figures_agree : all_computed projected_figures ≡ all_published projected_figures
unfolding projected_figures everything
projected-figures_agree = refl
