-- Row 51 as the loops have it. It compares each series that deposits cover with every earlier one of its class; it is enough to compare it with the first.
use Rattle.std.specs.Prelude.{◌≡◌, refl, Bool, true, false, not, ◌&&◌, List, ℕ, ◌+◌, ◌≤◌, ◌<◌, eqb, Option, Some, None, is_some, unwrap_or}
use Rattle.std.proofs.Math.Path.{sym}
use Rattle.std.proofs.Common.{ap, ◌∙◌, true≢false, arith, eq-eqb, eqb-true, ne_eqb}
use Rattle.std.proofs.Math.Decide.{dec_le, dec_lt, ℕ_discrete}
use Rattle.std.proofs.lemmas.Bool.{not-false}
use Rattle.numbers.specs.Scan.{first_bad, any_below, first_at, first-before, first-front, first-hit, first_clear, first-none, first_some}
use Rattle.numbers.specs.Stretch.{first_same}
use Rattle.numbers.specs.Tests.{and_left, and_right, and_out, and_in}
use Rattle.model.specs.DayFile.{class_count, series_count, series_class, series_type, multiplier, class_with, class_place}
use Rattle.model.specs.DepositChecks.{unlike}
use Rattle.model.specs.Steps.Classes.{of_class}
use Rattle.model.specs.Steps.Cover.{is_coverable, coverable_of}
use Rattle.model.proofs.Accepted.{DayRows}
use Rattle.model.proofs.Together.{class_below}
use Rattle.classes.specs.Range.{Range, start_of, range, at, scan_start, scan_end}
use Rattle.classes.specs.Tables.{Day}

-- deposits cover series s of class c, and its multiplier is not that of series f
abbrev pub class_differing : List ℕ → ℕ → ℕ → ℕ → Bool
class_differing d c f s = coverable_of d c s && not (eqb (multiplier d f) (multiplier d s))

-- the same of a series that is known to be of the class
abbrev pub differing : List ℕ → ℕ → ℕ → Bool
differing d f s = is_coverable (series_type d s) && not (eqb (multiplier d f) (multiplier d s))

-- ---- of the indices that pass p, one has another m than an earlier one exactly if one has another than the first

module _ (p : ℕ → Bool) (m : ℕ → ℕ) (n : ℕ) where
  abbrev earlier : ℕ → ℕ → Bool
  earlier s t = p t && not (eqb (m t) (m s))

  abbrev from_first : ℕ → ℕ → Bool
  from_first f s = p s && not (eqb (m f) (m s))

  none_pass : first_bad p n ≡ None → any_below n (λ s. p s && any_below s (earlier s)) ≡ false
  none_pass e = ap is_some (first-none (λ s. p s && any_below s (earlier s)) n (λ s h. and_out (p s) (any_below s (earlier s)) (first_clear p n e s h)))

  by_first : (f : ℕ) → first_bad p n ≡ Some f → any_below n (from_first f) ≡ any_below n (λ s. p s && any_below s (earlier s))
  by_first f e = by (first_bad (from_first f) n) refl
    where
      first : (f < n) × (p f ≡ true)
      first = first_at p n f e

      -- one that differs from the first comes after it
      later : (s : ℕ) → from_first f s ≡ true → f < s
      later s q = which (dec_lt s f) (ℕ_discrete s f)
        where
          which : Dec (s < f) → Dec (s ≡ f) → f < s
          which (yes l) z = absurd (true≢false (sym (and_left (p s) (not (eqb (m f) (m s))) q) ∙ first-before p n f e s l))
          which (no l) (yes z) =
              absurd (true≢false (sym (and_right (p s) (not (eqb (m f) (m s))) q) ∙ ap not (eq-eqb (m f) (m s) (ap m (sym z)))))
          which (no l) (no z) = omega arith

      -- where none differs from the first, all are alike
      alike : (s : ℕ) → s < n → p s ≡ true → first_bad (from_first f) n ≡ None → m f ≡ m s
      alike s h q z =
          eqb-true (m f) (m s) (not-false (eqb (m f) (m s)) (sym (and_in (p s) (not (eqb (m f) (m s))) q) ∙ first_clear (from_first f) n z s h))

      by : (g : Option ℕ) → first_bad (from_first f) n ≡ g → is_some g ≡ any_below n (λ s. p s && any_below s (earlier s))
      by (Some s) z =
          let w = first_at (from_first f) n s z in
          let q = and_left (p s) (not (eqb (m f) (m s))) w.1 in
          let o = and_right (p s) (not (eqb (m f) (m s))) w.1 in
          sym (first_some (λ s. p s && any_below s (earlier s)) s n
          (and_in (p s) (any_below s (earlier s)) q ∙ first_some (earlier s) f s (and_in (p f) (not (eqb (m f) (m s))) first.1 ∙ o) (later s w.1))
          w.0)
      by None z =
          sym (ap is_some (first-none (λ s. p s && any_below s (earlier s)) n
          (λ s h. pair s h (p s) refl)))
        where
          one : (s t : ℕ) → s < n → t < s → p s ≡ true → (b : Bool) → p t ≡ b → (b && not (eqb (m t) (m s))) ≡ false
          one s t h l q true r = ap not (eq-eqb (m t) (m s) (sym (alike t (omega arith) r z) ∙ alike s h q z))
          one s t h l q false r = refl

          pair : (s : ℕ) → s < n → (b : Bool) → p s ≡ b → (b && any_below s (earlier s)) ≡ false
          pair s h true q = ap is_some (first-none (earlier s) s (λ t l. one s t h l q (p t) refl))
          pair s h false q = refl

-- ---- the scans of the series of class c, which stand from a up to b

-- the range of a class of an accepted day file
pub stands : {d : List ℕ} {c a b : ℕ} → Day d → c < class_count d → (a ≡ start_of d c) × (b ≡ start_of d (c + 1)) → Range d c a b
stands w h e = rw (e.0, e.1) (range _ w.rows _ h)

module _ (d : List ℕ) (c a b : ℕ) (r : Range d c a b) where
  cover_out : (s : ℕ) → of_class d c s ≡ false → coverable_of d c s ≡ false
  cover_out s = and_out (of_class d c s) (is_coverable (series_type d s))

  cover_in : (s : ℕ) → of_class d c s ≡ true → coverable_of d c s ≡ is_coverable (series_type d s)
  cover_in s = and_in (of_class d c s) (is_coverable (series_type d s))

  pub cover_start : first_bad (coverable_of d c) a ≡ None
  cover_start = scan_start d c a b r (coverable_of d c) (λ s. is_coverable (series_type d s)) cover_out cover_in

  pub cover_end : first_bad (coverable_of d c) b ≡ None → first_bad (coverable_of d c) (series_count d) ≡ None
  cover_end = scan_end d c a b r (coverable_of d c) (λ s. is_coverable (series_type d s)) cover_out cover_in

  -- the first of those up to b is the first of all
  pub cover_all : first_bad (coverable_of d c) b ≡ first_bad (coverable_of d c) (series_count d)
  cover_all = by (first_bad (coverable_of d c) b) refl
    where
      by : (g : Option ℕ) → first_bad (coverable_of d c) b ≡ g → first_bad (coverable_of d c) b ≡ first_bad (coverable_of d c) (series_count d)
      by (Some s) e =
          let w = first_at (coverable_of d c) b s e in
          e ∙ sym (first-hit (coverable_of d c) s (series_count d) (first-front (coverable_of d c) b s e) w.1 (omega (arith, w.0, r.end)))
      by None e = e ∙ sym (cover_end e)

  pub cover_at : (s : ℕ) → a ≤ s → s < b → coverable_of d c s ≡ is_coverable (series_type d s)
  cover_at = at d c a b r (coverable_of d c) (λ s. is_coverable (series_type d s)) cover_out cover_in

  -- no series to cover
  pub unlike-none : first_bad (coverable_of d c) (series_count d) ≡ None → false ≡ unlike d c
  unfolding unlike
  unlike-none e = sym (none_pass (coverable_of d c) (multiplier d) (series_count d) e)

  -- the first of them is f
  module _ (f : ℕ) (e : first_bad (coverable_of d c) (series_count d) ≡ Some f) where
    pub first_inside : (a ≤ f) × (f < b)
    first_inside = by (dec_le a f) (dec_lt f b)
      where
        w : (f < series_count d) × (coverable_of d c f ≡ true)
        w = first_at (coverable_of d c) (series_count d) f e

        by : Dec (a ≤ f) → Dec (f < b) → (a ≤ f) × (f < b)
        by (yes p) (yes q) = (p, q)
        by (yes p) (no q) = absurd (true≢false (sym w.1 ∙ cover_out f (r.after f (omega arith) w.0)))
        by (no p) q = absurd (true≢false (sym w.1 ∙ cover_out f (r.before f (omega arith))))

    pub differ_start : first_bad (class_differing d c f) f ≡ None
    differ_start =
        first-none (class_differing d c f) f
        (λ s h. and_out (coverable_of d c s) (not (eqb (multiplier d f) (multiplier d s))) (first-before (coverable_of d c) (series_count d) f e s h))

    pub differ_at : (s : ℕ) → a ≤ s → s < b → class_differing d c f s ≡ differing d f s
    differ_at s p q = ap (λ (t : Bool). t && not (eqb (multiplier d f) (multiplier d s))) (cover_at s p q)

    pub differ_end : first_bad (class_differing d c f) b ≡ None → first_bad (class_differing d c f) (series_count d) ≡ None
    differ_end h =
        first_same (class_differing d c f) b (series_count d) r.end h
        (λ s p q. and_out (coverable_of d c s) (not (eqb (multiplier d f) (multiplier d s))) (cover_out s (r.after s p q)))

    pub unlike-first : any_below (series_count d) (class_differing d c f) ≡ unlike d c
    unfolding unlike
    unlike-first = by_first (coverable_of d c) (multiplier d) (series_count d) f e

    -- one differs among those up to b where one does among all
    pub differ_all : any_below b (class_differing d c f) ≡ unlike d c
    differ_all = by (first_bad (class_differing d c f) b) refl ∙ unlike-first
      where
        by : (g : Option ℕ) → first_bad (class_differing d c f) b ≡ g → is_some (first_bad (class_differing d c f) b) ≡ any_below (series_count d) (class_differing d c f)
        by (Some s) e =
            let w = first_at (class_differing d c f) b s e in
            ap is_some e ∙ sym (first_some (class_differing d c f) s (series_count d) w.1 (omega (arith, w.0, r.end)))
        by None e = ap is_some e ∙ sym (ap is_some (differ_end e))

-- ---- the class that a deposit names

module _ (d : List ℕ) (n : ℕ) where
  pub place_known : (c : ℕ) → class_with d n ≡ Some c → c ≡ class_place d n
  unfolding class_place
  place_known c e = sym (ap (λ (f : Option ℕ). unwrap_or f (class_count d)) e)

  -- an unknown class has no series
  pub unlike-unknown : DayRows d → class_with d n ≡ None → false ≡ unlike d (class_place d n)
  unfolding class_place unlike
  unlike-unknown r e =
      sym (ap (λ (f : Option ℕ). unlike d (unwrap_or f (class_count d))) e
      ∙ none_pass (coverable_of d (class_count d)) (multiplier d) (series_count d)
      (first-none (coverable_of d (class_count d)) (series_count d)
      (λ s h. and_out (of_class d (class_count d) s) (is_coverable (series_type d s))
      (ne_eqb (series_class d s) (class_count d) (λ q. omega (arith, class_below d r s h))))))
