-- The table of the starts of all classes, as one pass over the series fills it.
use Rattle.std.specs.Prelude.{◌≡◌, Bool, true, cond, List, ℕ, ◌+◌, ◌≤◌, ◌<◌, leb, ltb, get_or, Option, None, unwrap_or}
use Rattle.std.proofs.Math.Path.{sym, ap}
use Rattle.std.proofs.Common.{◌∙◌, arith}
use Rattle.std.proofs.Math.Decide.{dec_lt}
use borrow.Author.Tests.{lt-leb, lt-ltb, le-ltb}
use Rattle.numbers.specs.Scan.{first_bad, first-none, first-hit, first_all}
use Rattle.numbers.specs.Table.{tabulate, tabulate_ext, get_or-tabulate}
use Rattle.numbers.specs.Filling.{filled}
use Rattle.model.specs.DayFile.{class_count, series_count, series_class}
use Rattle.model.proofs.Accepted.{DayRows}
use Rattle.model.proofs.Together.{class_below}
use Rattle.classes.specs.Range.{start_of, cut, Range, range}
use Rattle.classes.specs.Tables.{Day}
use Rattle.model.specs.Limits.{most_classes}

-- series s is of class c or a later one
abbrev pub reached : List ℕ → ℕ → ℕ → Bool
reached d c s = leb c (series_class d s)

-- a start for each class that there may be, and one more
abbrev pub starts : ℕ
starts = most_classes + 1

abbrev pub start_table : List ℕ → List ℕ
start_table d = tabulate starts (start_of d)

module _ (d : List ℕ) (c s : ℕ) (h : first_bad (reached d c) s ≡ None) where
  pub start_hit : (r : Bool) → r ≡ reached d c s → r ≡ true → s < series_count d → s ≡ start_of d c
  unfolding start_of
  start_hit r e t l = sym (ap (λ (f : Option ℕ). unwrap_or f (series_count d)) (first-hit (reached d c) s (series_count d) h (sym e ∙ t) l))

  pub start_none : s ≤ series_count d → series_count d ≤ s → series_count d ≡ start_of d c
  unfolding start_of
  start_none p q = sym (ap (λ (f : Option ℕ). unwrap_or f (series_count d)) (first_all (reached d c) s (series_count d) h p q))

module _ (d : List ℕ) (r : DayRows d) where
  -- no series before the start of class c is of the next class or a later one
  pub next_start : (c : ℕ) → first_bad (reached d (c + 1)) (start_of d c) ≡ None
  next_start c = first-none (reached d (c + 1)) (start_of d c) (λ s h. lt-leb (c + 1) (series_class d s) (omega (arith, (cut d r c).below s h)))

  no_start : (c : ℕ) → class_count d ≤ c → start_of d c ≡ series_count d
  unfolding start_of
  no_start c h =
      ap (λ (f : Option ℕ). unwrap_or f (series_count d))
      (first-none (reached d c) (series_count d) (λ s l. lt-leb c (series_class d s) (omega (arith, class_below d r s l))))

  pub starts_all : (c : ℕ) → class_count d ≤ c → filled starts (start_of d) (λ i. series_count d) c ≡ start_table d
  starts_all c h = tabulate_ext starts (λ i. cond (ltb i c) (start_of d i) (series_count d)) (start_of d) (λ i p. by i (dec_lt i c))
    where
      by : (i : ℕ) → Dec (i < c) → cond (ltb i c) (start_of d i) (series_count d) ≡ start_of d i
      by i (yes l) = rw (lt-ltb i c l)
      by i (no l) = let m : c ≤ i = omega arith in rw (le-ltb i c m) (sym (no_start i (omega arith)))

-- the range of a class, by the table
pub table_range : (d t : List ℕ) (c : ℕ) → Day d → t ≡ start_table d → c < class_count d → Range d c (get_or t c 0) (get_or t (c + 1) 0)
table_range d t c w e h =
    rw (e, get_or-tabulate starts (start_of d) c 0 (omega (arith, w.classes)), get_or-tabulate starts (start_of d) (c + 1) 0 (omega (arith, w.classes)))
    (range d w.rows c h)
