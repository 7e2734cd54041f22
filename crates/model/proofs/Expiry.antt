-- In an accepted day file the open futures of a class stand by rising expiry, so the first place held is the earliest expiry held.
use Rattle.std.specs.Prelude.{Option, Some, None, unwrap_or}
use mathlib.Core.Path.{◌≡◌, refl, sym, ap, ◌∙◌}
use mathlib.Core.Bool.{Bool, true, false, not, ◌&&◌, ◌||◌, true≢false}
use mathlib.Core.List.{List}
use Prim.Native.Nat.{ℕ, suc, ◌+◌, ◌*◌, ◌-◌, ◌^◌, ◌≤◌, ◌<◌}
use native.Mathlib.Decide.{le_ind, dec_lt}
use native.Mathlib.Omega.{arith}
use borrow.Author.Tests.{eqb-true, ltb-true, ltb-false, lt-ltb, not-false}
use lib.Dec.{ltb, eqb}
use native.Mathlib.Nat.{le_of_eq}
use lib.IntN.{ℤ}
use Rattle.numbers.specs.Fields.{four_fields}
use Rattle.numbers.specs.Scan.{first_bad, first_at, first-before}
use Rattle.model.specs.Words.{bits}
use Rattle.model.specs.DayFile.{class_count, class_number, series_count, series_key, serial, expiry, series_type, series_class_number, strike, adjustment, is_future, is_option, is_derivative, is_security, found_class, series_class}
use Rattle.model.specs.DayChecks.{row16, row17}
use Rattle.model.specs.Steps.{not_zero, of_class, future_of, open_net, held_future}
use Rattle.numbers.specs.Tests.{and_left, and_right, or_left, or_right}
use Rattle.model.proofs.Accepted.{DayRows}

-- key payload, then strike, as one number
abbrev pub rank : List ℕ → ℕ → ℕ
rank d s = series_key d s * 2 ^ 29 + strike d s

higher : (x y p q : ℕ) → p < 2 ^ 29 → (ltb x y || (eqb x y && ltb p q)) ≡ true → x * 2 ^ 29 + p < y * 2 ^ 29 + q
higher x y p q h e = by (ltb x y) refl e
  where
    by : (b : Bool) → ltb x y ≡ b → (b || (eqb x y && ltb p q)) ≡ true → x * 2 ^ 29 + p < y * 2 ^ 29 + q
    by true l w = omega (arith, ltb-true x y l)
    by false l w = omega (arith, eqb-true x y (and_left (eqb x y) (ltb p q) w), ltb-true p q (and_right (eqb x y) (ltb p q) w))

module _ (d : List ℕ) (r : DayRows d) where
  abbrev lower : ℕ → ℕ → Bool
  lower s t = ltb (series_key d s) (series_key d t) || (eqb (series_key d s) (series_key d t) && ltb (strike d s) (strike d t))

  next-lower : (s : ℕ) → suc s < series_count d → lower s (suc s) ≡ true
  unfolding row16
  next-lower s h =
      let e : suc s - 1 ≡ s = omega arith in
      let p : (ltb 0 (suc s) && not (lower s (suc s))) ≡ false = rw e at (r.at16 (suc s) h) in
      not-false (lower s (suc s)) (rw (lt-ltb 0 (suc s) (omega arith)) at p)

  next-rank : (s : ℕ) → suc s < series_count d → rank d s < rank d (suc s)
  next-rank s h = higher (series_key d s) (series_key d (suc s)) (strike d s) (strike d (suc s)) (omega arith) (next-lower s h)

  pub rank_order : (s t : ℕ) → s < t → t < series_count d → rank d s < rank d t
  rank_order s t h =
      le_ind (λ (m : ℕ). m < series_count d → rank d s < rank d m) (next-rank s)
      (λ m p w l. omega (arith, w (omega arith), next-rank m l)) t h

  -- the class number of a series of class c
  number_of_lem : (c s : ℕ) → c < class_count d → of_class d c s ≡ true → class_number d c ≡ series_class_number d s
  unfolding series_class found_class
  number_of_lem c s h e = by (found_class d s) refl (eqb-true (series_class d s) c e)
    where
      by : (f : Option ℕ) → found_class d s ≡ f → unwrap_or (found_class d s) (class_count d) ≡ c → class_number d c ≡ series_class_number d s
      by (Some i) p q =
          let z = first_at (λ c. eqb (class_number d c) (series_class_number d s)) (class_count d) i p in
          let w : i ≡ c = sym (ap (λ (f : Option ℕ). unwrap_or f (class_count d)) p) ∙ q in
          ap (class_number d) (sym w) ∙ eqb-true (class_number d i) (series_class_number d s) z.1
      by None p q =
          let w : class_count d ≡ c = sym (ap (λ (f : Option ℕ). unwrap_or f (class_count d)) p) ∙ q in
          absurd (omega arith)

  -- an open future has serial 0 and strike 0
  module _ (s : ℕ) (h : s < series_count d) (f : is_future (series_type d s) ≡ true) where
    abbrev A : Bool
    A = not (is_derivative (series_type d s) || is_security (series_type d s))

    abbrev B : Bool
    B = is_derivative (series_type d s) && ltb 0 (serial d s)

    abbrev C : Bool
    C = is_future (series_type d s) && ltb 0 (strike d s)

    abbrev D : Bool
    D = is_security (series_type d s) && (ltb 0 (strike d s) || ltb 0 (expiry d s))

    abbrev E : Bool
    E = not (is_option (series_type d s)) && ltb 0 (adjustment d s)

    front : (A || B || C) ≡ false
    unfolding row17
    front = or_left (A || B || C) D (or_left (A || B || C || D) E (r.at17 s h))

    no_serial : serial d s ≡ 0
    no_serial =
        let p : B ≡ false = or_right A B (or_left (A || B) C front) in
        let q : ltb 0 (serial d s) ≡ false = rw f at p in
        omega (arith, ltb-false 0 (serial d s) q)

    no_strike : strike d s ≡ 0
    no_strike =
        let p : C ≡ false = or_right (A || B) C front in
        let q : ltb 0 (strike d s) ≡ false = rw f at p in
        omega (arith, ltb-false 0 (strike d s) q)

-- open futures are of one type
one_future : (t u : ℕ) → is_future t ≡ true → is_future u ≡ true → t ≡ u
one_future t u p q = eqb-true t _ p ∙ sym (eqb-true u _ q)

-- two keys with the same class number and type, and serial 0
by_expiry : (x y a b c e : ℕ) → x < y → a * 2 ^ 23 + b * 2 ^ 19 + c * 2 ^ 7 + 0 ≡ x → a * 2 ^ 23 + b * 2 ^ 19 + e * 2 ^ 7 + 0 ≡ y → c < e
by_expiry x y a b c e h p q = omega arith

-- a key by its fields
fields : (x : ℕ) → x < 2 ^ 29 → bits x 23 6 * 2 ^ 23 + bits x 19 4 * 2 ^ 19 + bits x 7 12 * 2 ^ 7 + bits x 0 7 ≡ x
fields x h = omega (arith, four_fields x 6 4 12 7 h)

pub expiry_order : (d : List ℕ) (c s t : ℕ) → DayRows d → c < class_count d → s < t → t < series_count d
    → future_of d c s ≡ true → future_of d c t ≡ true → expiry d s < expiry d t
expiry_order d c s t r hc h l p q =
    let fs = and_right (of_class d c s) (is_future (series_type d s)) p in
    let ft = and_right (of_class d c t) (is_future (series_type d t)) q in
    let ns = number_of_lem d r c s hc (and_left (of_class d c s) (is_future (series_type d s)) p) in
    let nt = number_of_lem d r c t hc (and_left (of_class d c t) (is_future (series_type d t)) q) in
    let hs : s < series_count d = omega arith in
    let k : series_key d s < series_key d t = omega (arith, rank_order d r s t h l, no_strike d r s hs fs, no_strike d r t l ft) in
    let es = fields (series_key d s) (omega arith) in
    let et = fields (series_key d t) (omega arith) in
    let same : series_type d t ≡ series_type d s = one_future (series_type d t) (series_type d s) ft fs in
    by_expiry (series_key d s) (series_key d t) (class_number d c) (series_type d s) (expiry d s) (expiry d t) k
    (rw (← ns, no_serial d r s hs fs) at es)
    (rw (← nt, same, no_serial d r t l ft) at et)

-- the spot: no open future of the class that is held has an earlier expiry
pub spot_earliest : (d : List ℕ) (n : ℕ → ℤ) (k c s t : ℕ) → DayRows d → c < class_count d
    → first_bad (held_future d n k c) (series_count d) ≡ Some s → t < series_count d → held_future d n k c t ≡ true → expiry d s ≤ expiry d t
unfolding held_future
spot_earliest d n k c s t r hc e l q = by (dec_lt s t) (dec_lt t s)
  where
    future : (j : ℕ) → held_future d n k c j ≡ true → future_of d c j ≡ true
    future j w = and_left (future_of d c j) (not_zero (open_net n k j)) w

    by : Dec (s < t) → Dec (t < s) → expiry d s ≤ expiry d t
    by (yes p) w =
        omega (arith, expiry_order d c s t r hc p l (future s (first_at (held_future d n k c) (series_count d) s e).1) (future t q))
    by (no p) (yes w) = absurd (true≢false (sym q ∙ first-before (held_future d n k c) (series_count d) s e t w))
    by (no p) (no w) = let z : s ≡ t = omega arith in le_of_eq (ap (expiry d) z)
