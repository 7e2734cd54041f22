-- Accounts on which the mistakes seen on units show, each accepted (its first number is 0). M9 shows a security with net 0 dropped with its DVP, M4 offsetting after adding the classes.
use Rattle.std.specs.Prelude.{◌≡◌, refl, List, [], ◌∷◌, ◌++◌, ℕ, pos, replicate, get_or}
use Rattle.model.specs.Words.{payload}
use Rattle.model.specs.Netting.{net}
use Rattle.model.specs.Steps.{spread_quantity, spot_spread, non_spot_spread, spread, premium}
use Rattle.model.specs.Calls.{report}
use Rattle.model.specs.Accounts.{Figure, all_computed, all_published, minus, ten, day_file, class_record, series_record, batch_file, position_record, status, line_of}
use Rattle.model.specs.Figures.{futures, calls_exercised, share}
use Rattle.model.specs.Computing.{everything}

-- the earliest listed month has net 0: spread quantity 3, spot 3, non-spot 3, margin 1,500
abbrev spot_held : List ℕ
spot_held =
    batch_file 3 (position_record 0 4 4 (pos 0) ++ (position_record 1 0 5 (pos 0) ++ position_record 2 3 0 (pos 0)))

-- two exercised calls out of the money: underlying 5, strike 6; not floored, the premium is a debit of 2
abbrev out_of_the_money : List ℕ
out_of_the_money =
    day_file 1 1 (class_record 0 0 (50000 ∷ replicate 7 0) 0 (ten 50000) ++ series_record 0 2 0 1 (60000 ∷ 0 ∷ []) (ten 0))

-- two records of one position: M3's share, in one line
abbrev pub two_records : List ℕ
two_records = batch_file 2 (position_record 0 100 0 (pos 0) ++ position_record 0 100 0 (minus 81500000))

-- spot as the earliest listed month; the in-the-money amount floored at 0; records counted in the header
unfoldable pub mistakes : List Figure
mistakes =
    record {
      computed =
          status futures spot_held
          ∷ spread_quantity futures (net spot_held) 0 0
          ∷ spot_spread futures (net spot_held) 0 0
          ∷ non_spot_spread futures (net spot_held) 0 0
          ∷ spread futures (net spot_held) 0 0
          ∷ [];
      published = pos 0 ∷ pos 3 ∷ pos 3 ∷ pos 3 ∷ pos 15000000 ∷ [];
    }
    ∷ record {
      computed = status out_of_the_money calls_exercised ∷ premium out_of_the_money (net calls_exercised) 0 0 ∷ [];
      published = pos 0 ∷ pos 20000 ∷ [];
    }
    ∷ record {
      computed = status share two_records ∷ pos (payload (get_or (report share two_records []) 0 0)) ∷ line_of share two_records 3;
      published = pos 0 ∷ pos 1 ∷ pos 0 ∷ pos 1500000 ∷ pos 0 ∷ pos 8000000 ∷ pos 9500000 ∷ pos 0 ∷ [];
    }
    ∷ []

pub mistakes_agree : all_computed mistakes ≡ all_published mistakes
unfolding mistakes everything
mistakes_agree = refl
