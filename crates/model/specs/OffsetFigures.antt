-- U6 at work: credits at offsets in hundredths of a percent, an account at several offsets, and the limit of row 12.
-- Each figure of an account begins with the call's number, 0: the account is accepted.
use Rattle.std.specs.Prelude.{◌≡◌, refl, List, [], ◌∷◌, ◌++◌, map, ℕ, ℤ, pos, replicate}
use Rattle.model.specs.Steps.{after_offset}
use Rattle.model.specs.Accounts.{Figure, all_computed, all_published, minus, ten, no_rates, day_file, percent, class_record, series_record, batch_file, position_record, line_of, group_points, answer_numbers, status}
use Rattle.model.specs.Computing.{everything}

-- two classes of group 3 with these offsets and a share each, at 1,000 units: D5 899 and 800, U5 1,200 and 1,101
abbrev offsets : ℕ → ℕ → List ℕ
offsets o p =
    day_file 2 2
    (class_record 3 0 no_rates o (ten 0)
    ++ (class_record 3 1 no_rates p (ten 0)
    ++ (series_record 0 4 0 1 (0 ∷ 1000 ∷ []) (899 ∷ (replicate 8 1000 ++ 1200 ∷ []))
    ++ series_record 1 4 0 1 (0 ∷ 1000 ∷ []) (800 ∷ (replicate 8 1000 ++ 1101 ∷ [])))))

-- the first short by one, the second long by one: at D5 a credit of 101 and a debit of 200, at U5 a debit of 200 and a credit of 101
abbrev short_and_long : List ℕ
short_and_long = batch_file 2 (position_record 0 0 1 (pos 0) ++ position_record 1 1 0 (pos 0))

-- whether the account is accepted, its line and its amounts at the ten points
abbrev at_offset : ℕ → List ℤ
at_offset o = status (offsets o o) short_and_long ∷ (line_of (offsets o o) short_and_long 3 ++ group_points (offsets o o) short_and_long 3)

-- the same where D5 and U5 come to so many units each
abbrev leaves : ℕ → List ℤ
leaves n = map pos (0 ∷ 0 ∷ 0 ∷ 0 ∷ n ∷ n ∷ 0 ∷ n ∷ (replicate 8 0 ++ n ∷ []))

unfoldable pub offset_figures : List Figure
offset_figures =
    -- M7's credit of 101 at 82.75%, and at 0.85%, as an earlier file's 85 reads now
    record { computed = after_offset 8275 (minus 101) ∷ after_offset 85 (minus 101) ∷ []; published = minus 83 ∷ pos 0 ∷ [] }
    -- at both ends and beside them; a debit remains whole
    ∷ record {
      computed =
          after_offset 0 (minus 101)
          ∷ after_offset 1 (minus 10000)
          ∷ after_offset 1 (minus 9999)
          ∷ after_offset 9999 (minus 101)
          ∷ after_offset 10000 (minus 101)
          ∷ after_offset 8275 (pos 101)
          ∷ [];
      published = pos 0 ∷ minus 1 ∷ pos 0 ∷ minus 100 ∷ minus 101 ∷ pos 101 ∷ [];
    }
    -- the largest credit of a class, and one unit less: their products with the offset have 74 bits
    ∷ record {
      computed = after_offset 8275 (minus 1280000000000000000) ∷ after_offset 8275 (minus 1279999999999999999) ∷ [];
      published = minus 1059200000000000000 ∷ minus 1059199999999999999 ∷ [];
    }
    -- an account at 82.75%, 85%, 0.85%, the whole and none
    ∷ record { computed = at_offset 8275; published = leaves 117 }
    ∷ record { computed = at_offset (percent 85); published = leaves 115 }
    ∷ record { computed = at_offset 85; published = leaves 200 }
    ∷ record { computed = at_offset 10000; published = leaves 99 }
    ∷ record { computed = at_offset 0; published = leaves 200 }
    -- 12: 10,001, of either class; 10,000 is accepted
    ∷ record {
      computed =
          answer_numbers (offsets 10001 10001) short_and_long ++ answer_numbers (offsets 10000 10001) short_and_long
          ++ answer_numbers (offsets 10000 10000) short_and_long;
      published = map pos (12 ∷ 0 ∷ 12 ∷ 1 ∷ 0 ∷ 32 ∷ []);
    }
    ∷ []

pub offset-figures_agree : all_computed offset_figures ≡ all_published offset_figures
unfolding offset_figures everything
offset-figures_agree = refl
