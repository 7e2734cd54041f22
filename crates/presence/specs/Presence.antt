-- A group's line by classes: some class of the group has, in its range, a series that is held.
use Rattle.std.specs.Prelude.{◌≡◌, Bool, true, false, ◌&&◌, ◌||◌, List, ℕ, ◌+◌, ◌-◌, ◌≤◌, ◌<◌, eqb, ℤ, Option, Some, None, is_some}
use Rattle.std.proofs.Math.Path.{refl, sym}
use Rattle.std.proofs.Common.{ap, ◌∙◌, true≢false, arith, eq-eqb, ne_eqb}
use Rattle.std.proofs.Math.Decide.{dec_le, dec_lt, ℕ_discrete}
use Rattle.numbers.specs.Flags.{flag, flags}
use Rattle.numbers.specs.Lists.{nothing_hit}
use Rattle.numbers.specs.Scan.{first_bad, any_below, first_at, first_clear, first-none, first_some}
use Rattle.numbers.specs.Table.{tabulate, tabulate_ext}
use Rattle.model.specs.DayFile.{class_count, series_count, series_class, series_group, group}
use Rattle.model.specs.Netting.{position}
use Rattle.model.specs.Steps.Positions.{held}
use Rattle.model.specs.Steps.Lines.{held_in, has_line}
use Rattle.model.proofs.Accepted.{DayRows}
use Rattle.numbers.specs.Tests.{and_left, and_right, and_out, and_in}
use Rattle.model.proofs.Together.{class_below}
use Rattle.classes.specs.Range.{start_of, cut, range}

-- the open or the exercised or assigned position of series s
abbrev pub held_at : (ℕ → ℤ) → (ℕ → ℤ) → ℕ → ℕ → Bool
held_at n v k s = held n v (position k 0 s) || held n v (position k 1 s)

abbrev pub any_held : (ℕ → ℤ) → (ℕ → ℤ) → ℕ → ℕ → ℕ → Bool
any_held n v k a m = any_below m (λ i. held_at n v k (a + i))

-- a position of class c
abbrev pub class_held : List ℕ → (ℕ → ℤ) → (ℕ → ℤ) → ℕ → ℕ → Bool
class_held d n v k c = any_held n v k (start_of d c) (start_of d (c + 1) - start_of d c)

abbrev group_held : List ℕ → (ℕ → ℤ) → (ℕ → ℤ) → ℕ → ℕ → ℕ → Bool
group_held d n v k g c = eqb (group d c) g && class_held d n v k c

-- a flag for each number that a class's group can have: five bits
abbrev pub group_flags : ℕ
group_flags = 32

-- by group, of the classes below m
abbrev pub groups_to : List ℕ → (ℕ → ℤ) → (ℕ → ℤ) → ℕ → ℕ → List Bool
groups_to d n v k m = flags group_flags (group d) (class_held d n v k) m

module _ (d : List ℕ) (n v : ℕ → ℤ) (k g : ℕ) (r : DayRows d) where
  -- a series in its class's range
  place : (s : ℕ) → s < series_count d → (start_of d (series_class d s) ≤ s) × (s < start_of d (series_class d s + 1))
  place s h = (low (dec_le (start_of d (series_class d s)) s), high (dec_lt s (start_of d (series_class d s + 1))))
    where
      low : Dec (start_of d (series_class d s) ≤ s) → start_of d (series_class d s) ≤ s
      low (yes l) = l
      low (no l) = absurd (omega (arith, (cut d r (series_class d s)).below s (omega arith)))

      high : Dec (s < start_of d (series_class d s + 1)) → s < start_of d (series_class d s + 1)
      high (yes l) = l
      high (no l) = absurd (omega (arith, (cut d r (series_class d s + 1)).above s (omega arith) h))

  in_class : (s : ℕ) → held_in d n v k g s ≡ eqb (group d (series_class d s)) g && held_at n v k s
  unfolding held_in series_group
  in_class s = refl

  -- a class held has a series held
  some_series : (c : ℕ) → c < class_count d → group_held d n v k g c ≡ true → any_below (series_count d) (held_in d n v k g) ≡ true
  some_series c h e = by (first_bad (λ i. held_at n v k (start_of d c + i)) (start_of d (c + 1) - start_of d c)) refl (and_right (eqb (group d c) g) _ e)
    where
      by : (f : Option ℕ) → first_bad (λ i. held_at n v k (start_of d c + i)) (start_of d (c + 1) - start_of d c) ≡ f → is_some f ≡ true
          → any_below (series_count d) (held_in d n v k g) ≡ true
      by (Some i) p q =
          let z = first_at (λ i. held_at n v k (start_of d c + i)) (start_of d (c + 1) - start_of d c) i p in
          let w = range d r c h in
          let l : start_of d c + i < start_of d (c + 1) = omega (arith, z.0) in
          let x : series_class d (start_of d c + i) ≡ c = w.here (start_of d c + i) (omega arith) l in
          first_some (held_in d n v k g) (start_of d c + i) (series_count d)
          (in_class (start_of d c + i) ∙ (λ j. eqb (group d (x j)) g && z.1 j) ∙ ap (λ (t : Bool). t && true) (and_left (eqb (group d c) g) _ e))
          (omega (arith, w.end))
      by None p q = absurd (true≢false (sym q))

  -- with no class held no series is
  no_series : ((c : ℕ) → c < class_count d → group_held d n v k g c ≡ false) → (s : ℕ) → s < series_count d → held_in d n v k g s ≡ false
  no_series none s h = in_class s ∙ by (ℕ_discrete (group d c) g)
    where
      c : ℕ
      c = series_class d s

      by : Dec (group d (series_class d s) ≡ g) → (eqb (group d (series_class d s)) g && held_at n v k s) ≡ false
      by (yes e) =
          let t = eq-eqb (group d (series_class d s)) g e in
          let p = place s h in
          let q : any_held n v k (start_of d (series_class d s)) (start_of d (series_class d s + 1) - start_of d (series_class d s)) ≡ false =
          sym (and_in (eqb (group d (series_class d s)) g) _ t) ∙ none (series_class d s) (class_below d r s h)
          in
          let z =
          first_clear (λ i. held_at n v k (start_of d (series_class d s) + i)) (start_of d (series_class d s + 1) - start_of d (series_class d s))
          (nothing_hit _ q) (s - start_of d (series_class d s)) (omega (arith, p.0, p.1))
          in
          let x : start_of d (series_class d s) + (s - start_of d (series_class d s)) ≡ s = omega (arith, p.0) in
          and_in (eqb (group d (series_class d s)) g) (held_at n v k s) t ∙ ap (held_at n v k) (sym x) ∙ z
      by (no e) = and_out (eqb (group d (series_class d s)) g) (held_at n v k s) (ne_eqb (group d (series_class d s)) g e)

  line_by_class : any_below (class_count d) (group_held d n v k g) ≡ has_line d n v k g
  unfolding has_line
  line_by_class = by (first_bad (group_held d n v k g) (class_count d)) refl
    where
      by : (f : Option ℕ) → first_bad (group_held d n v k g) (class_count d) ≡ f → is_some f ≡ any_below (series_count d) (held_in d n v k g)
      by (Some c) e = let z = first_at (group_held d n v k g) (class_count d) c e in sym (some_series c z.0 z.1)
      by None e = sym (ap is_some (first-none (held_in d n v k g) (series_count d) (no_series (first_clear (group_held d n v k g) (class_count d) e))))

pub groups_are : (d : List ℕ) (n v : ℕ → ℤ) (k : ℕ) → DayRows d → groups_to d n v k (class_count d) ≡ tabulate group_flags (has_line d n v k)
groups_are d n v k r = tabulate_ext group_flags (flag (group d) (class_held d n v k) (class_count d)) (has_line d n v k) (λ g h. line_by_class d n v k g r)
