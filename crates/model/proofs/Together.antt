-- In an accepted day file the series stand by class: class numbers rise, every series has its class, and a later series has no earlier class.
use Rattle.std.specs.Prelude.{Option, Some, None, is_some, unwrap_or}
use mathlib.Core.Path.{◌≡◌, refl, sym, ap, ◌∙◌}
use mathlib.Core.Bool.{true, false, ◌&&◌, true≢false}
use mathlib.Core.List.{List}
use Prim.Native.Nat.{ℕ, suc, ◌-◌, ◌/◌, ◌%◌, ◌^◌, ◌≤◌, ◌<◌}
use native.Mathlib.Decide.{le_ind, dec_lt, dec_le}
use native.Mathlib.Nat.{le_of_eq}
use native.Mathlib.Omega.{arith}
use borrow.Author.Tests.{eqb-true, eq-eqb, ne_eqb, leb-false, le-leb, lt-leb, lt-ltb, not-false}
use lib.Dec.{leb, ltb, eqb}
use Rattle.numbers.specs.Scan.{first_at, first-hit, first-none}
use Rattle.model.specs.DayFile.{class_count, class_number, series_count, series_key, series_class_number, found_class, class_place, series_class}
use Rattle.model.specs.DayChecks.{row13, row15}
use Rattle.model.proofs.Accepted.{DayRows}
use Rattle.model.proofs.Expiry.{rank_order}

module _ (d : List ℕ) (r : DayRows d) where
  next_number : (c : ℕ) → suc c < class_count d → class_number d c < class_number d (suc c)
  unfolding row13
  next_number c h =
      let e : suc c - 1 ≡ c = omega arith in
      let p : (ltb 0 (suc c) && leb (class_number d (suc c)) (class_number d c)) ≡ false = rw e at (r.at13 (suc c) h) in
      leb-false (class_number d (suc c)) (class_number d c) (rw (lt-ltb 0 (suc c) (omega arith)) at p)

  number_order : (c e : ℕ) → c < e → e < class_count d → class_number d c < class_number d e
  number_order c e h =
      le_ind (λ (m : ℕ). m < class_count d → class_number d c < class_number d m) (next_number c)
      (λ m p w l. omega (arith, w (omega arith), next_number m l)) e h

  -- the class of a series, and its number
  found : (s : ℕ) → s < series_count d → (series_class d s < class_count d) × (class_number d (series_class d s) ≡ series_class_number d s)
  unfolding row15 series_class found_class
  found s h = by (found_class d s) refl (not-false (is_some (found_class d s)) (r.at15 s h))
    where
      by : (f : Option ℕ) → found_class d s ≡ f → is_some f ≡ true → (unwrap_or f (class_count d) < class_count d) × (class_number d (unwrap_or f (class_count d)) ≡ series_class_number d s)
      by (Some i) p q =
          let z = first_at (λ c. eqb (class_number d c) (series_class_number d s)) (class_count d) i p in
          (z.0, eqb-true (class_number d i) (series_class_number d s) z.1)
      by None p q = absurd (true≢false (sym q))

  pub class_below : (s : ℕ) → s < series_count d → series_class d s < class_count d
  class_below s h = (found s h).0

  -- a class is as late as that of a series exactly if its number is
  pub class_test : (c s : ℕ) → c < class_count d → s < series_count d → leb (class_number d c) (series_class_number d s) ≡ leb c (series_class d s)
  class_test c s hc hs = by (dec_le c (series_class d s))
    where
      by : Dec (c ≤ series_class d s) → leb (class_number d c) (series_class_number d s) ≡ leb c (series_class d s)
      by (yes l) = rw (le-leb c (series_class d s) l, le-leb (class_number d c) (series_class_number d s) (to (dec_lt c (series_class d s))))
        where
          to : Dec (c < series_class d s) → class_number d c ≤ series_class_number d s
          to (yes m) = omega (arith, number_order c (series_class d s) m (found s hs).0, (found s hs).1)
          to (no m) = let e : c ≡ series_class d s = omega arith in le_of_eq (ap (class_number d) e ∙ (found s hs).1)
      by (no l) =
          let m : series_class d s < c = omega arith in
          rw (lt-leb c (series_class d s) m, lt-leb (class_number d c) (series_class_number d s) (omega (arith, number_order (series_class d s) c m hc, (found s hs).1)))

  key_number : (x y : ℕ) → x ≤ y → y < 2 ^ 29 → x / 2 ^ 23 % 2 ^ 6 ≤ y / 2 ^ 23 % 2 ^ 6
  key_number x y h l = omega arith

  pub class_order : (s t : ℕ) → s ≤ t → t < series_count d → series_class d s ≤ series_class d t
  class_order s t h l = by (dec_lt s t) (dec_le (series_class d s) (series_class d t))
    where
      by : Dec (s < t) → Dec (series_class d s ≤ series_class d t) → series_class d s ≤ series_class d t
      by w (yes p) = p
      by (yes w) (no p) =
          let hs : s < series_count d = omega arith in
          let k : series_key d s ≤ series_key d t = omega (arith, rank_order d r s t w l) in
          absurd
          (omega (
            arith,
            key_number (series_key d s) (series_key d t) k (omega arith),
            number_order (series_class d t) (series_class d s) (omega arith) (found s hs).0,
            (found s hs).1,
            (found t l).1,
          ))
      by (no w) (no p) = let e : s ≡ t = omega arith in le_of_eq (ap (series_class d) e)

  -- a class is found by its own number
  pub class_place_lem : (c : ℕ) → c < class_count d → class_place d (class_number d c) ≡ c
  unfolding class_place
  class_place_lem c h =
      ap (λ (f : Option ℕ). unwrap_or f (class_count d))
      (first-hit (λ e. eqb (class_number d e) (class_number d c)) c (class_count d)
      (first-none (λ e. eqb (class_number d e) (class_number d c)) c
      (λ e l. ne_eqb (class_number d e) (class_number d c) (λ q. omega (arith, number_order e c l h))))
      (eq-eqb (class_number d c) (class_number d c) refl) h)
