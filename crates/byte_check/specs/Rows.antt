-- Rows 1 and 2 by cases; of files that pass: that both were opened, and how long they are at most.
use Rattle.std.specs.Prelude.{◌≡◌, Bool, true, false, not, ◌||◌, List, [], ◌∷◌, ℕ, ◌*◌, ◌%◌, ◌≤◌, ltb, length, Ok, Err}
use Rattle.std.proofs.Math.Path.{refl}
use Rattle.std.proofs.Common.{ltb-false}
use Rattle.numbers.specs.Tests.{or_right}
use Rattle.model.specs.declared.Check.TheVariants.{Bytes}
use Rattle.model.specs.declared.BytesFault.TheVariants.{DayFile, BatchFile}
use Rattle.model.specs.Bytes.{bad_bytes, row1, row2, bytes_check, longest_day, longest_batch}
use Rattle.model.specs.Printed.{files_check}
use Rattle.model.specs.Rows.{tried, plain_row}
use Rattle.model.proofs.Accepted.{plain_clear, plain_back}
use Rattle.model.proofs.Verdicts.{◌then◌, tried_pass, tried-passed, plain_failed, plain_passed, none_left}

-- p and q are what the two tests of bytes said
module _ (day_opened : Bool) (day : List ℕ) (batch_opened : Bool) (batch : List ℕ) {p : Bool} (e : p ≡ bad_bytes day longest_day) where
  pub day_refused : (not day_opened || p) ≡ true → Err (Bytes DayFile 0) ≡ files_check day_opened day batch_opened batch
  unfolding files_check row1
  day_refused t = rw (← e) (plain_failed (Bytes DayFile) _ _ _ _ refl t refl)

  module _ (t : (not day_opened || p) ≡ false) {q : Bool} (f : q ≡ bad_bytes batch longest_batch) where
    pub batch_refused : (not batch_opened || q) ≡ true → Err (Bytes BatchFile 0) ≡ files_check day_opened day batch_opened batch
    unfolding files_check row1 row2
    batch_refused u = rw (← e, ← f) (plain_passed (Bytes DayFile) _ _ _ _ refl t (plain_failed (Bytes BatchFile) _ _ _ _ refl u refl))

    pub none_refused : (not batch_opened || q) ≡ false → Ok tt ≡ files_check day_opened day batch_opened batch
    unfolding files_check row1 row2
    none_refused u = rw (← e, ← f) (plain_passed (Bytes DayFile) _ _ _ _ refl t (plain_passed (Bytes BatchFile) _ _ _ _ refl u none_left))

-- both files opened
pub both_opened : (day batch : List ℕ) → files_check true day true batch ≡ bytes_check day batch
unfolding files_check bytes_check
both_opened day batch = refl

-- the bytes of a day file that was not opened do not count
pub day_unopened : (x y : List ℕ) (batch_opened : Bool) (batch : List ℕ) → files_check false x batch_opened batch ≡ files_check false y batch_opened batch
unfolding files_check
day_unopened x y batch_opened batch = refl

-- those of a batch neither
pub batch_unopened : (day_opened : Bool) (day x y : List ℕ) → files_check day_opened day false x ≡ files_check day_opened day false y
unfolding files_check
batch_unopened day_opened day x y = refl

-- ---- files that pass

both_rows : (p q : Bool) → tried (plain_row (Bytes DayFile) p ∷ plain_row (Bytes BatchFile) q ∷ []) ≡ Ok tt → (p ≡ false) × (q ≡ false)
both_rows p q e = let z = tried-passed _ e in (plain_clear (Bytes DayFile) _ z.0, plain_clear (Bytes BatchFile) _ z.1.0)

short_enough : (l : List ℕ) (longest : ℕ) → bad_bytes l longest ≡ false → length l ≤ 4 * longest
short_enough l longest e = ltb-false (4 * longest) (length l) (or_right (ltb 0 (length l % 4)) (ltb (4 * longest) (length l)) e)

pub passed-short : (day batch : List ℕ) → bytes_check day batch ≡ Ok tt → (length day ≤ 4 * longest_day) × (length batch ≤ 4 * longest_batch)
unfolding bytes_check row1 row2
passed-short day batch e =
    let p = both_rows (bad_bytes day longest_day) (bad_bytes batch longest_batch) e in
    (short_enough day longest_day p.0, short_enough batch longest_batch p.1)

pub passed-opened : (day_opened : Bool) (day : List ℕ) (batch_opened : Bool) (batch : List ℕ) → files_check day_opened day batch_opened batch ≡ Ok tt → bytes_check day batch ≡ Ok tt
unfolding files_check bytes_check
passed-opened day_opened day batch_opened batch e =
    let p = both_rows (not day_opened || row1 day) (not batch_opened || row2 batch) e in
    tried_pass _ (plain_back (Bytes DayFile) _ (or_right (not day_opened) (row1 day) p.0) then plain_back (Bytes BatchFile) _ (or_right (not batch_opened) (row2 batch) p.1) then tt)
