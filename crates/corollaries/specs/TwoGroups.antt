-- Demand 3 at work on an account of two groups and both books: a change of the fail of group 2, and its removal. Lines, margins and totals are read from the words.
use Rattle.std.specs.Prelude.{◌≡◌, refl, List, [], ◌∷◌, ◌++◌, ℤ, pos, length, replicate, ℕ, ◌≤◌}
use mathlib.Core.List.Perm
use Rattle.std.proofs.Common.{lit≤, arith}
use Rattle.numbers.specs.Lists.{keep}
use Rattle.numbers.specs.Table.{tabulate}
use Rattle.model.specs.Calls.{Accepted, memory_after, needed}
use Rattle.model.specs.Computing.{everything}
use Rattle.model.specs.Accounts.{day_file, class_record, series_record, batch_file, position_record, ten, minus}
use Rattle.model.specs.Reading.{count_in, amounts_in, margin_in, total_in, amount_in}
use Rattle.model.specs.Locality.{Edit, LocalChange}
use Rattle.model.proofs.Demand.{edit_none, demand3}

-- one share in group 2 at 10 euro and one in group 5 at 20 euro, equity rate 1 euro
abbrev pub day : List ℕ
day =
    day_file 2 2
    (class_record 2 0 (replicate 5 0 ++ 10000 ∷ 0 ∷ 0 ∷ []) 0 (ten 0)
    ++ (class_record 5 1 (replicate 5 0 ++ 10000 ∷ 0 ∷ 0 ∷ []) 0 (ten 0)
    ++ (series_record 0 4 0 1 (0 ∷ 100000 ∷ []) (ten 100000) ++ series_record 1 4 0 1 (0 ∷ 200000 ∷ []) (ten 200000))))

-- ten of the first long: a residual credit of 90; five of the second short: a margin of 105
abbrev long_first : List ℕ
long_first = position_record 0 10 0 (pos 0)

abbrev short_second : List ℕ
short_second = position_record 1 0 5 (pos 0)

-- so many of the first short, as a fail
abbrev fail_first : ℕ → List ℕ
fail_first q = position_record 512 0 q (pos 0)

-- three short as a fail: a margin of 33
abbrev pub before : List ℕ
before = batch_file 3 (long_first ++ (fail_first 3 ++ short_second))

-- four short as a fail, and the other records in another order
abbrev pub changed : List ℕ
changed = batch_file 3 (short_second ++ (long_first ++ fail_first 4))

-- no fail
abbrev pub removed : List ℕ
removed = batch_file 2 (long_first ++ short_second)

abbrev pub memory : List ℕ
memory = replicate 80 0

-- ---- accepted, with room

pub before_accepted : Accepted day before []
unfolding everything
before_accepted = refl

pub changed_accepted : Accepted day changed []
unfolding everything
changed_accepted = refl

pub removed_accepted : Accepted day removed []
unfolding everything
removed_accepted = refl

pub before_room : needed day before ≤ length memory
unfolding everything
before_room = lit≤ tt

pub changed_room : needed day changed ≤ length memory
unfolding everything
changed_room = lit≤ tt

pub removed_room : needed day removed ≤ length memory
unfolding everything
removed_room = lit≤ tt

-- ---- both are edits in group 2 of the fail book

changed_edit : Edit day 2 1 before changed
unfolding everything keep tabulate
changed_edit = Perm.swap short_second long_first []

removed_edit : Edit day 2 1 before removed
unfolding everything keep tabulate
removed_edit = Perm.refl (long_first ∷ short_second ∷ [])

pub changed_locally : LocalChange (memory_after day before [] memory) (memory_after day changed [] memory) 2 1
changed_locally =
    demand3.edits.local day before changed [] [] memory memory 2 1 (omega arith) (omega arith) before_accepted changed_accepted changed_edit (edit_none day 2 1) before_room changed_room

pub removed_locally : LocalChange (memory_after day before [] memory) (memory_after day removed [] memory) 2 1
removed_locally =
    demand3.edits.local day before removed [] [] memory memory 2 1 (omega arith) (omega arith) before_accepted removed_accepted removed_edit (edit_none day 2 1) before_room removed_room

-- ---- the figures, read from the words: header's count; margins of ordinary 2, ordinary 5, fail 2, fail 5; totals

abbrev figures_in : List ℕ → List ℤ
figures_in w =
    pos (count_in w) ∷ margin_in w 0 2 ∷ margin_in w 0 5 ∷ margin_in w 1 2 ∷ margin_in w 1 5
    ∷ amount_in (total_in w 0) 0 ∷ amount_in (total_in w 1) 0 ∷ amount_in (total_in w 2) 0 ∷ []

pub before-figures : figures_in (memory_after day before [] memory)
    ≡ pos 3 ∷ pos 0 ∷ pos 1050000 ∷ pos 330000 ∷ pos 0 ∷ pos 1050000 ∷ pos 330000 ∷ pos 1380000 ∷ []
unfolding everything
before-figures = refl

pub changed-figures : figures_in (memory_after day changed [] memory)
    ≡ pos 3 ∷ pos 0 ∷ pos 1050000 ∷ pos 440000 ∷ pos 0 ∷ pos 1050000 ∷ pos 440000 ∷ pos 1490000 ∷ []
unfolding everything
changed-figures = refl

pub removed-figures : figures_in (memory_after day removed [] memory)
    ≡ pos 2 ∷ pos 0 ∷ pos 1050000 ∷ pos 0 ∷ pos 0 ∷ pos 1050000 ∷ pos 0 ∷ pos 1050000 ∷ []
unfolding everything
removed-figures = refl

-- the other line of group 2 stands with a residual credit of 90, which lowers no total
pub credit_stands : amounts_in (memory_after day before [] memory) 0 2 ≡ pos 0 ∷ minus 1000000 ∷ pos 0 ∷ pos 100000 ∷ pos 0 ∷ pos 900000 ∷ []
unfolding everything
credit_stands = refl
