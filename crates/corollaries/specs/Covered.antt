-- What cover does to the nets (U5), for a reader: no net turns long and none grows, a class's net short falls by the contracts covered and no more, a series is used up before the next is touched, and without deposits nothing changes.
use Rattle.std.specs.Prelude.{◌≡◌, Bool, false, not, ◌&&◌, ◌||◌, ◌⊎◌, List, [], ◌∷◌, ℕ, zero, suc, ◌+◌, ◌-◌, ◌/◌, ◌^◌, ◌≤◌, ◌<◌, min, ltb, eqb, ℤ, pos, negsuc, nat_abs}
use Rattle.std.proofs.Math.Path.{refl, ap}
use Rattle.std.proofs.Common.{sym, ◌∙◌, inl, inr, arith, le_of_eq}
use Rattle.std.proofs.Math.Bool.{true, cond}
use Rattle.std.proofs.Math.Decide.{dec_lt}
use Rattle.std.proofs.Math.Nat.{zero-div}
use borrow.Author.Tests.{eq-eqb, eqb-true, ne_eqb, le-ltb, not-false}
use Rattle.numbers.specs.Tests.{and_left, and_right, and_false, or_false}
use Rattle.numbers.specs.Scan.{first_bad, any_below, first_clear}
use Rattle.numbers.specs.Lists.{nothing_hit}
use Rattle.numbers.specs.Budget.{sum_n_where, sum_n_where_ext}
use Rattle.numbers.specs.Order.{Order, by_place, larger_then, place_order, larger_order}
use Rattle.numbers.specs.Taking.{left_at, before_more, left-sum}
use Rattle.model.specs.Outcomes.{Verdict}
use Rattle.model.specs.Rows.{tried}
use Rattle.model.specs.DayFile.{class_count, class_place, series_count, series_type, series_class, expiry, multiplier, is_future}
use Rattle.model.specs.DayChecks.{day_check}
use Rattle.model.specs.BatchChecks.{batch_check}
use Rattle.model.specs.Netting.{position, net, dvp, netting_check}
use Rattle.model.specs.Deposits.{deposit_count, named_number, shares_of}
use Rattle.model.specs.DepositChecks.{unlike, row51}
use Rattle.model.specs.Steps.Classes.{of_class, future_of}
use Rattle.model.specs.Steps.Cover.{is_coverable, coverable_of, open_rank, among_equals, short_size, reduced, contracts_covered, short_of, goes_before, cover_before, series_covered, covered}
use Rattle.model.specs.Steps.Spread.{long_side}
use Rattle.model.specs.Report.{report_words}
use Rattle.model.specs.Calls.{verdict, report}
use Rattle.model.proofs.Accepted.{DayRows, DepositRows}
use Rattle.model.proofs.Expiry.{expiry_order}
use Rattle.model.proofs.Cover.{covered-future, covered_above, covered_none, is_reduced, never_more_lem, covered_kept, covered_no_deposits, no_deposits_pass}
use Rattle.model.proofs.DepositLaws.{named_or_none}
use Rattle.model.proofs.DepositOrders.{few_deposits_lem}

-- the net short in the ordinary book of the series of class c that deposits cover
abbrev pub class_short : List ℕ → (ℕ → ℤ) → ℕ → ℕ
class_short d n c = sum_n_where (series_count d) (coverable_of d c) (short_of d n)

-- the net shorts of two series are equal, and their expiries
pub record Tied (d : List ℕ) (n : ℕ → ℤ) (s t : ℕ) : Type 0 where
  pub size : short_of d n s ≡ short_of d n t
  pub month : expiry d s ≡ expiry d t

pub record Covered : Type 0 where
  -- "no net turns long": the long side of every position stays
  pub never_long : (d x : List ℕ) (n : ℕ → ℤ) (p : ℕ) → long_side (covered d x n p) ≡ long_side (n p)
  -- none grows
  pub never_more : (d x : List ℕ) (n : ℕ → ℤ) (p : ℕ) → nat_abs (covered d x n p) ≤ nat_abs (n p)
  -- "net short futures in the ordinary book" alone: the keys from the series count on, the fail book and exercised or assigned ones, stay
  pub other_keys : (d x : List ℕ) (n : ℕ → ℤ) (p : ℕ) → series_count d ≤ p → covered d x n p ≡ n p
  pub other_types : (d x : List ℕ) (n : ℕ → ℤ) (p : ℕ) → is_coverable (series_type d p) ≡ false → covered d x n p ≡ n p
  -- "that class's": a class without a deposit keeps its nets
  pub other_classes : (d x : List ℕ) (n : ℕ → ℤ) (p : ℕ) → shares_of d x (series_class d p) ≡ 0 → covered d x n p ≡ n p
  -- the total taken is the smaller of the contracts covered and the total net short of the class of s
  pub taken : (d x : List ℕ) (n : ℕ → ℤ) (s : ℕ) → DepositRows d x → s < series_count d → is_coverable (series_type d s) ≡ true
      → class_short d (covered d x n) (series_class d s) + min (contracts_covered d x s) (class_short d n (series_class d s)) ≡ class_short d n (series_class d s)
  -- "a series is used up before the next is touched": of s, which goes before u, nothing is left where u has less than before
  pub used_up : (d x : List ℕ) (n : ℕ → ℤ) (c s u : ℕ) → DepositRows d x → s < series_count d → u < series_count d
      → coverable_of d c s ≡ true → coverable_of d c u ≡ true → goes_before d n s u ≡ true
      → short_of d (covered d x n) u < short_of d n u → short_of d (covered d x n) s ≡ 0
  -- "from the largest net short on, and among equals from the further expiry": among the open futures of an accepted day file nothing else decides
  pub order : (d : List ℕ) (n : ℕ → ℤ) (c s t : ℕ) → DayRows d → c < class_count d → s < series_count d → t < series_count d
      → future_of d c s ≡ true → future_of d c t ≡ true
      → goes_before d n t s ≡ (ltb (short_of d n s) (short_of d n t) || (eqb (short_of d n t) (short_of d n s) && ltb (expiry d s) (expiry d t)))
  -- "where both agree, the open one goes first, then the lower series place" (U9)
  pub open_first : (d : List ℕ) (n : ℕ → ℤ) (s t : ℕ) → Tied d n s t → is_future (series_type d s) ≡ true → is_future (series_type d t) ≡ false → goes_before d n s t ≡ true
  pub lower_first : (d : List ℕ) (n : ℕ → ℤ) (s t : ℕ) → Tied d n s t → is_future (series_type d s) ≡ is_future (series_type d t) → goes_before d n s t ≡ ltb s t
  -- row 51: the futures of a class that it passes, open and expired, have one multiplier
  pub one_multiplier : (d : List ℕ) (c s t : ℕ) → unlike d c ≡ false → s < series_count d → t < series_count d
      → coverable_of d c s ≡ true → coverable_of d c t ≡ true → multiplier d s ≡ multiplier d t
  -- "a class that .. was named by an earlier deposit" is refused, so no more pass than there are class numbers, of six bits
  pub few_deposits : (d x : List ℕ) → DepositRows d x → deposit_count x ≤ 2 ^ 6
  -- with no deposits: the rows are those up to 30, and the amounts are of the nets
  pub none_checked : (d b : List ℕ) → verdict d b [] ≡ tried (day_check d ∷ batch_check d b ∷ netting_check d b ∷ [])
  pub none_reported : (d b : List ℕ) → report d b [] ≡ report_words d (net b) (net b) (dvp b)

-- ---- one net

reduced-long : (z : ℤ) (k : ℕ) → long_side (reduced z k) ≡ long_side z
reduced-long (pos n) k = long-none (n - k) ∙ sym (long-none n)
  where
    long-none : (m : ℕ) → long_side (pos m) ≡ pos 0
    long-none zero = refl
    long-none (suc m) = refl
reduced-long (negsuc n) k = refl

reduced-short : (z : ℤ) (k : ℕ) → short_size (reduced z k) ≡ short_size z - k
reduced-short (pos n) k = refl
reduced-short (negsuc n) k = omega arith

never_long_lem : (d x : List ℕ) (n : ℕ → ℤ) (p : ℕ) → long_side (covered d x n p) ≡ long_side (n p)
never_long_lem d x n p = let r = is_reduced d x n p in ap long_side r.1 ∙ reduced-long (n p) r.0

-- ---- a class whose coverable series have one multiplier m

module _ (d x : List ℕ) (n : ℕ → ℤ) where
  order : Order (goes_before d n)
  unfolding goes_before
  order =
      larger_order (short_of d n) (among_equals d)
      (larger_order (expiry d) (larger_then (open_rank d) by_place) (larger_order (open_rank d) by_place place_order))

  module _ (c m : ℕ) (alike : (s : ℕ) → s < series_count d → coverable_of d c s ≡ true → multiplier d s ≡ m) where
    -- the contracts that its deposit covers
    abbrev K : ℕ
    K = shares_of d x c / m

    abbrev after : ℕ → ℕ
    after = short_of d (covered d x n)

    abbrev left : ℕ → ℕ
    left = left_at (short_of d n) (goes_before d n) order K (series_count d) (coverable_of d c)

    left_is : (s : ℕ) → s < series_count d → coverable_of d c s ≡ true → after s ≡ left s
    unfolding series_covered contracts_covered cover_before
    left_is s h e =
        let own : series_class d s ≡ c = eqb-true (series_class d s) c (and_left (of_class d c s) (is_coverable (series_type d s)) e) in
        ap short_size (covered-future d x n s h (and_right (of_class d c s) (is_coverable (series_type d s)) e))
        ∙ reduced-short (n (position 0 0 s)) (contracts_covered d x s - cover_before d n s)
        ∙ (λ i. short_of d n s - (shares_of d x (own i) / alike s h e i - sum_n_where (series_count d) (λ t. coverable_of d (own i) t && goes_before d n t s) (short_of d n)))

    class_total : class_short d (covered d x n) c ≡ class_short d n c - K
    class_total =
        sum_n_where_ext (series_count d) (coverable_of d c) after left left_is
        ∙ left-sum (short_of d n) (goes_before d n) order (series_count d) (coverable_of d c) K

    class_used_up : (s u : ℕ) → s < series_count d → u < series_count d → coverable_of d c s ≡ true → coverable_of d c u ≡ true
        → goes_before d n s u ≡ true → after u < short_of d n u → after s ≡ 0
    class_used_up s u hs hu es eu g l =
        omega (
          arith,
          left_is s hs es,
          left_is u hu eu,
          before_more (short_of d n) (goes_before d n) order (series_count d) (coverable_of d c) s u hs es g,
        )

-- ---- row 51: the coverable series of a named class have one multiplier

like_multipliers : (d : List ℕ) (c s t : ℕ) → unlike d c ≡ false → s < series_count d → t < series_count d
    → coverable_of d c s ≡ true → coverable_of d c t ≡ true → multiplier d s ≡ multiplier d t
unfolding unlike
like_multipliers d c s t e hs ht es et = by (dec_lt s t) (dec_lt t s)
  where
    clear : (n : ℕ) (w : ℕ → Bool) → any_below n w ≡ false → (i : ℕ) → i < n → w i ≡ false
    clear n w q = first_clear w n (nothing_hit (first_bad w n) q)

    off : (a b : Bool) → (a && b) ≡ false → a ≡ true → b ≡ false
    off a b q r = sym (ap (λ (z : Bool). z && b) r) ∙ q

    earlier : (u v : ℕ) → u < v → v < series_count d → coverable_of d c u ≡ true → coverable_of d c v ≡ true → multiplier d u ≡ multiplier d v
    earlier u v h hv eu ev =
        let p = off (coverable_of d c v) (any_below v (λ t. coverable_of d c t && not (eqb (multiplier d t) (multiplier d v))))
        (clear (series_count d) (λ s. coverable_of d c s && any_below s (λ t. coverable_of d c t && not (eqb (multiplier d t) (multiplier d s)))) e v hv) ev
        in
        let q = off (coverable_of d c u) (not (eqb (multiplier d u) (multiplier d v)))
        (clear v (λ t. coverable_of d c t && not (eqb (multiplier d t) (multiplier d v))) p u h) eu
        in
        eqb-true (multiplier d u) (multiplier d v) (not-false (eqb (multiplier d u) (multiplier d v)) q)

    by : Dec (s < t) → Dec (t < s) → multiplier d s ≡ multiplier d t
    by (yes h) q = earlier s t h ht es et
    by (no h) (yes l) = sym (earlier t s l hs et es)
    by (no h) (no l) = let z : s ≡ t = omega arith in ap (multiplier d) z

-- ---- accepted deposits

module _ (d x : List ℕ) (r : DepositRows d x) where
  -- class c is named by a deposit
  abbrev Named : ℕ → Type 0
  Named c = (i : ℕ) × (i < deposit_count x) × (class_place d (named_number x i) ≡ c)

  named_alike : (c : ℕ) → Named c → unlike d c ≡ false
  unfolding row51
  named_alike c q = ap (unlike d) (sym q.2) ∙ r.at51 q.0 q.1

  module _ (n : ℕ → ℤ) where
    -- a series of a class without shares keeps its net short
    short_kept : (c s : ℕ) → shares_of d x c ≡ 0 → coverable_of d c s ≡ true → short_of d (covered d x n) s ≡ short_of d n s
    short_kept c s z e =
        let own = eqb-true (series_class d s) c (and_left (of_class d c s) (is_coverable (series_type d s)) e) in
        let key : position 0 0 s ≡ s = omega arith in
        ap (λ (p : ℕ). short_size (covered d x n p)) key
        ∙ ap short_size (covered_kept d x n s (ap (shares_of d x) own ∙ z))
        ∙ ap (λ (p : ℕ). short_size (n p)) (sym key)

    class_taken : (s : ℕ) → s < series_count d → is_coverable (series_type d s) ≡ true
        → class_short d (covered d x n) (series_class d s) + min (contracts_covered d x s) (class_short d n (series_class d s)) ≡ class_short d n (series_class d s)
    unfolding contracts_covered
    class_taken s hs es = by (named_or_none d x r (series_class d s))
      where
        own : coverable_of d (series_class d s) s ≡ true
        own = (λ i. eq-eqb (series_class d s) (series_class d s) refl i && is_coverable (series_type d s)) ∙ es

        by : Named (series_class d s) ⊎ (shares_of d x (series_class d s) ≡ 0)
            → class_short d (covered d x n) (series_class d s) + min (shares_of d x (series_class d s) / multiplier d s) (class_short d n (series_class d s)) ≡ class_short d n (series_class d s)
        by (inl q) =
            omega (
              arith,
              class_total d x n (series_class d s) (multiplier d s) (λ t h e. like_multipliers d (series_class d s) t s (named_alike (series_class d s) q) h hs e own),
            )
        by (inr z) =
            omega (
              arith,
              sum_n_where_ext (series_count d) (coverable_of d (series_class d s)) (short_of d (covered d x n)) (short_of d n) (λ t h e. short_kept (series_class d s) t z e),
              ap (λ (k : ℕ). k / multiplier d s) z ∙ zero-div (multiplier d s),
            )

    used_up_lem : (c s u : ℕ) → s < series_count d → u < series_count d → coverable_of d c s ≡ true → coverable_of d c u ≡ true
        → goes_before d n s u ≡ true → short_of d (covered d x n) u < short_of d n u → short_of d (covered d x n) s ≡ 0
    used_up_lem c s u hs hu es eu g l = by (named_or_none d x r c)
      where
        by : Named c ⊎ (shares_of d x c ≡ 0) → short_of d (covered d x n) s ≡ 0
        by (inl q) = class_used_up d x n c (multiplier d s) (λ t h e. like_multipliers d c t s (named_alike c q) h hs e es) s u hs hu es eu g l
        by (inr z) = absurd (omega (arith, short_kept c u z eu))

-- ---- the order

by_size_and_expiry : (d : List ℕ) (n : ℕ → ℤ) (c s t : ℕ) → DayRows d → c < class_count d → s < series_count d → t < series_count d
    → future_of d c s ≡ true → future_of d c t ≡ true
    → goes_before d n t s ≡ (ltb (short_of d n s) (short_of d n t) || (eqb (short_of d n t) (short_of d n s) && ltb (expiry d s) (expiry d t)))
unfolding goes_before
by_size_and_expiry d n c s t r hc hs ht fs ft =
    ap (λ (b : Bool). ltb (short_of d n s) (short_of d n t) || (eqb (short_of d n t) (short_of d n s) && b))
    (ap (λ (b : Bool). ltb (expiry d s) (expiry d t) || b) (ap (λ (b : Bool). eqb (expiry d t) (expiry d s) && b) both_open ∙ place_off (dec_lt s t) (dec_lt t s))
    ∙ or_false (ltb (expiry d s) (expiry d t)))
  where
    both_open : larger_then (open_rank d) by_place t s ≡ ltb t s
    both_open = rw (and_right (of_class d c s) (is_future (series_type d s)) fs, and_right (of_class d c t) (is_future (series_type d t)) ft)

    off : ltb t s ≡ false → (eqb (expiry d t) (expiry d s) && ltb t s) ≡ false
    off e = ap (λ (b : Bool). eqb (expiry d t) (expiry d s) && b) e ∙ and_false (eqb (expiry d t) (expiry d s))

    place_off : Dec (s < t) → Dec (t < s) → (eqb (expiry d t) (expiry d s) && ltb t s) ≡ false
    place_off (yes h) q = off (le-ltb t s (omega arith))
    place_off (no h) (yes l) =
        ap (λ (b : Bool). b && ltb t s) (ne_eqb (expiry d t) (expiry d s) (λ e. let z = expiry_order d c t s r hc l hs ft fs in omega arith))
    place_off (no h) (no l) = off (le-ltb t s (omega arith))

-- series s and t with equal net shorts and expiries
module _ (d : List ℕ) (n : ℕ → ℤ) (s t : ℕ) (a : Tied d n s t) where
  by_rank : goes_before d n s t ≡ larger_then (open_rank d) by_place s t
  unfolding goes_before
  by_rank =
      rw (
        le-ltb (short_of d n t) (short_of d n s) (le_of_eq a.size),
        eq-eqb (short_of d n s) (short_of d n t) a.size,
        le-ltb (expiry d t) (expiry d s) (le_of_eq a.month),
        eq-eqb (expiry d s) (expiry d t) a.month,
      )

  open_before : is_future (series_type d s) ≡ true → is_future (series_type d t) ≡ false → goes_before d n s t ≡ true
  open_before p q = by_rank ∙ rw (p, q)

  lower_before : is_future (series_type d s) ≡ is_future (series_type d t) → goes_before d n s t ≡ ltb s t
  lower_before p =
      let e : open_rank d s ≡ open_rank d t = ap (λ (b : Bool). cond b 1 0) p in
      by_rank ∙ rw (le-ltb (open_rank d t) (open_rank d s) (le_of_eq e), eq-eqb (open_rank d s) (open_rank d t) e)

-- ---- no deposits

none_checked_lem : (d b : List ℕ) → verdict d b [] ≡ tried (day_check d ∷ batch_check d b ∷ netting_check d b ∷ [])
unfolding verdict tried
none_checked_lem d b = ap (λ (v : Verdict). tried (day_check d ∷ batch_check d b ∷ netting_check d b ∷ v ∷ [])) (no_deposits_pass d)

pub cover_theorems : Covered
cover_theorems =
    record {
      never_long = never_long_lem;
      never_more = never_more_lem;
      other_keys = covered_above;
      other_types = covered_none;
      other_classes = covered_kept;
      taken = λ d x n s r. class_taken d x r n s;
      used_up = λ d x n c s u r. used_up_lem d x r n c s u;
      order = by_size_and_expiry;
      open_first = open_before;
      lower_first = lower_before;
      one_multiplier = like_multipliers;
      few_deposits = few_deposits_lem;
      none_checked = none_checked_lem;
      none_reported = λ d b. ap (λ (u : ℕ → ℤ). report_words d (net b) u (dvp b)) (covered_no_deposits d (net b));
    }
