-- The series of a class stand together: from `start_of d c` up to `start_of d (c + 1)`. Sums and scans over a class run over this range alone.
use Rattle.std.specs.Prelude.{◌≡◌, refl, Bool, true, false, ◌&&◌, cond, List, ℕ, ◌+◌, ◌≤◌, ◌<◌, leb, ℤ, pos, ◌+ℤ◌, Option, Some, None, unwrap_or}
use Rattle.std.proofs.Common.{sym, ap, ◌∙◌, le_refl, arith, eq-eqb, ne_eqb, leb-true, leb-false}
use Rattle.std.proofs.Math.Decide.{dec_le}
use Rattle.numbers.specs.Tests.{and_out, and_in}
use Rattle.numbers.specs.Scan.{first_bad, first_where, first_at, first-before, first_clear, first-none}
use Rattle.numbers.specs.Sums.{sum_where, sum_to_more, sum_where-none}
use Rattle.numbers.specs.Stretch.{sum_where_same, first_same}
use Rattle.model.specs.DayFile.{class_count, series_count, series_class}
use Rattle.model.specs.Steps.Classes.{of_class}
use Rattle.model.proofs.Accepted.{DayRows}
use Rattle.model.proofs.Together.{class_order}

-- the first series of class c or a later one; past the last series where there is none
unfoldable pub start_of : List ℕ → ℕ → ℕ
start_of d c = unwrap_or (first_where (λ s. leb c (series_class d s)) (series_count d)) (series_count d)

-- the series below a are of classes below c, the others are not
pub record Cut (d : List ℕ) (c a : ℕ) : Type 0 where
  pub end : a ≤ series_count d
  pub below : (s : ℕ) → s < a → series_class d s < c
  pub above : (s : ℕ) → a ≤ s → s < series_count d → c ≤ series_class d s

pub cut : (d : List ℕ) → DayRows d → (c : ℕ) → Cut d c (start_of d c)
unfolding start_of
cut d r c = by (first_bad (λ s. leb c (series_class d s)) (series_count d)) refl
  where
    by : (f : Option ℕ) → first_bad (λ s. leb c (series_class d s)) (series_count d) ≡ f → Cut d c (unwrap_or f (series_count d))
    by (Some i) e =
        let z = first_at (λ s. leb c (series_class d s)) (series_count d) i e in
        record {
          end = omega (arith, z.0);
          below = λ s h. leb-false c (series_class d s) (first-before (λ s. leb c (series_class d s)) (series_count d) i e s h);
          above = λ s h l. omega (arith, leb-true c (series_class d i) z.1, class_order d r i s h l);
        }
    by None e =
        record {
          end = le_refl (series_count d);
          below = λ s h. leb-false c (series_class d s) (first_clear (λ s. leb c (series_class d s)) (series_count d) e s h);
          above = λ s h l. absurd (omega arith);
        }

-- the series of class c are those from a up to b
pub record Range (d : List ℕ) (c a b : ℕ) : Type 0 where
  pub class : c < class_count d
  pub rising : a ≤ b
  pub end : b ≤ series_count d
  pub before : (s : ℕ) → s < a → of_class d c s ≡ false
  pub here : (s : ℕ) → a ≤ s → s < b → series_class d s ≡ c
  pub after : (s : ℕ) → b ≤ s → s < series_count d → of_class d c s ≡ false

pub range : (d : List ℕ) → DayRows d → (c : ℕ) → c < class_count d → Range d c (start_of d c) (start_of d (c + 1))
range d r c h =
    let p = cut d r c in
    let q = cut d r (c + 1) in
    record {
      class = h;
      rising = rising_of p q (dec_le (start_of d c) (start_of d (c + 1)));
      end = q.end;
      before = λ s l. ne_eqb (series_class d s) c (λ e. let z = p.below s l in omega arith);
      here = λ s l m. let y = p.above s l (omega (arith, q.end)) in let z = q.below s m in omega arith;
      after = λ s l m. ne_eqb (series_class d s) c (λ e. let z = q.above s l m in omega arith);
    }
  where
    rising_of : Cut d c (start_of d c) → Cut d (c + 1) (start_of d (c + 1)) → Dec (start_of d c ≤ start_of d (c + 1)) → start_of d c ≤ start_of d (c + 1)
    rising_of p q (yes l) = l
    rising_of p q (no l) =
        let m : start_of d (c + 1) < start_of d c = omega arith in
        absurd (omega (arith, p.below (start_of d (c + 1)) m, q.above (start_of d (c + 1)) (le_refl (start_of d (c + 1))) (omega (arith, p.end))))

-- ---- a test that holds of series of class c alone, and is u within the class

module _ (d : List ℕ) (c a b : ℕ) (r : Range d c a b) (t u : ℕ → Bool)
    (out : (s : ℕ) → of_class d c s ≡ false → t s ≡ false) (inside : (s : ℕ) → of_class d c s ≡ true → t s ≡ u s) where
  pub at : (s : ℕ) → a ≤ s → s < b → t s ≡ u s
  at s p q = inside s (eq-eqb (series_class d s) c (r.here s p q))

  pub sum_start : (f : ℕ → ℤ) → pos 0 ≡ sum_where a t f
  sum_start f = sym (sum_where-none a t f (λ s h. out s (r.before s h)))

  pub sum_turn : (f : ℕ → ℤ) (s : ℕ) → a ≤ s → s < b → sum_where (s + 1) t f ≡ sum_where s t f +ℤ cond (u s) (f s) (pos 0)
  sum_turn f s p q =
      sum_to_more s (λ i. cond (t i) (f i) (pos 0)) ∙ ap (λ (x : Bool). sum_where s t f +ℤ cond x (f s) (pos 0)) (at s p q)

  pub sum_end : (f : ℕ → ℤ) → sum_where b t f ≡ sum_where (series_count d) t f
  sum_end f = sum_where_same t b f (series_count d) r.end (λ s p q. out s (r.after s p q))

  pub scan_start : first_bad t a ≡ None
  scan_start = first-none t a (λ s h. out s (r.before s h))

  pub scan_end : first_bad t b ≡ None → first_bad t (series_count d) ≡ None
  scan_end h = first_same t b (series_count d) r.end h (λ s p q. out s (r.after s p q))

-- ---- the tests of the model: of the class, and a test of the series

module _ (d : List ℕ) (c a b : ℕ) (r : Range d c a b) (u : ℕ → Bool) (f : ℕ → ℤ) where
  abbrev pub up_to : ℕ → ℤ
  up_to m = sum_where m (λ s. of_class d c s && u s) f

  pub start : pos 0 ≡ up_to a
  start = sum_start d c a b r (λ s. of_class d c s && u s) u (λ s. and_out (of_class d c s) (u s)) (λ s. and_in (of_class d c s) (u s)) f

  pub turn : (s : ℕ) → a ≤ s → s < b → up_to (s + 1) ≡ up_to s +ℤ cond (u s) (f s) (pos 0)
  turn = sum_turn d c a b r (λ s. of_class d c s && u s) u (λ s. and_out (of_class d c s) (u s)) (λ s. and_in (of_class d c s) (u s)) f

  pub finish : up_to b ≡ up_to (series_count d)
  finish = sum_end d c a b r (λ s. of_class d c s && u s) u (λ s. and_out (of_class d c s) (u s)) (λ s. and_in (of_class d c s) (u s)) f
