-- Nets and DVPs as sums over the list of records: in any order the same, and untouched by records of other positions.
use Rattle.std.specs.Prelude.{Option, Some, None}
use mathlib.Core.Path.{◌≡◌, refl, sym, ap, ◌∙◌, fun_ext}
use mathlib.Core.Bool.{Bool, false, not, ◌||◌, cond}
use mathlib.Core.Logic.{◌⊎◌, inl, inr, ⊎_elim}
use mathlib.Core.List.{List, Perm}
use Prim.Native.Nat.{ℕ, ◌<◌, ◌≤◌}
use native.Mathlib.Omega.{arith}
use borrow.Author.Tests.{eqb-true, ne_eqb, ltb-false, not-false}
use lib.Dec.{eqb, ltb}
use lib.IntN.{ℤ, pos, ◌-ℤ◌}
use lib.ListN.{length, get_or}
use Rattle.numbers.specs.Scan.{first_bad, first_at, first_clear}
use Rattle.numbers.specs.Sums.{sum_where, sum_where-none}
use Rattle.numbers.specs.Perms.{sum_of, sum_to_of, sum-perm}
use Rattle.numbers.specs.Lists.{sum-keep}
use Rattle.model.specs.Words.{kind, payload, bits, amount}
use Rattle.model.specs.DayFile.{day_header, class_count, series_count, series_group}
use Rattle.model.specs.DayChecks.{row10}
use Rattle.model.specs.Batch.{record_count, key, long, short, dvp_amount}
use Rattle.model.specs.Netting.{position, position_count, net, dvp, places}
use Rattle.model.specs.Locality.{record_at, records, of_line, struck, Edit}
use Rattle.numbers.specs.Tests.{and_left, and_right, or_left, or_right}
use Rattle.model.proofs.Accepted.{DayRows}
use Rattle.model.proofs.Lines.{Agree}
use Rattle.model.specs.Limits.{most_classes, most_series}

abbrev pub key_of : List ℕ → ℕ
key_of w = bits (payload (get_or w 0 0)) 0 10

-- what a record adds to the net and the DVP of the position p
abbrev pub net_of : ℕ → List ℕ → ℤ
net_of p w = cond (eqb (key_of w) p) (pos (payload (get_or w 2 0)) -ℤ pos (payload (get_or w 1 0))) (pos 0)

abbrev pub dvp_of : ℕ → List ℕ → ℤ
dvp_of p w = cond (eqb (key_of w) p) (amount (get_or w 3 0) (get_or w 4 0) (get_or w 5 0)) (pos 0)

pub net-sum : (b : List ℕ) (p : ℕ) → net b p ≡ sum_of (net_of p) (records b)
unfolding net
net-sum b p = sum_to_of (net_of p) (record_count b) (record_at b)

pub dvp-sum : (b : List ℕ) (p : ℕ) → dvp b p ≡ sum_of (dvp_of p) (records b)
unfolding dvp
dvp-sum b p = sum_to_of (dvp_of p) (record_count b) (record_at b)

-- ---- a position has a record, or its net and DVP are 0

module _ (b : List ℕ) (p : ℕ) where
  pub record_or_none : ((r : ℕ) × (r < record_count b) × (key b r ≡ p)) ⊎ ((net b p ≡ pos 0) × (dvp b p ≡ pos 0))
  unfolding net dvp
  record_or_none = by (first_bad (λ r. eqb (key b r) p) (record_count b)) refl
    where
      by : (f : Option ℕ) → first_bad (λ r. eqb (key b r) p) (record_count b) ≡ f
          → ((r : ℕ) × (r < record_count b) × (key b r ≡ p)) ⊎ ((sum_where (record_count b) (λ r. eqb (key b r) p) (λ r. pos (short b r) -ℤ pos (long b r)) ≡ pos 0) × (sum_where (record_count b) (λ r. eqb (key b r) p) (dvp_amount b) ≡ pos 0))
      by (Some r) e = let z = first_at (λ r. eqb (key b r) p) (record_count b) r e in inl (r, z.0, eqb-true (key b r) p z.1)
      by None e =
          let none = first_clear (λ r. eqb (key b r) p) (record_count b) e in
          inr (
            sum_where-none (record_count b) (λ r. eqb (key b r) p) (λ r. pos (short b r) -ℤ pos (long b r)) none,
            sum_where-none (record_count b) (λ r. eqb (key b r) p) (dvp_amount b) none,
          )

  -- no record has a key of more than ten bits
  pub none_outside : position_count ≤ p → (net b p ≡ pos 0) × (dvp b p ≡ pos 0)
  none_outside h = ⊎_elim (λ z. absurd (omega (arith, z.2))) (λ z. z) record_or_none

-- ---- any order

pub net_order : (b₁ b₂ : List ℕ) → Perm (records b₁) (records b₂) → net b₁ ≡ net b₂
net_order b₁ b₂ p = fun_ext (λ q. net-sum b₁ q ∙ sum-perm (net_of q) (records b₁) (records b₂) p ∙ sym (net-sum b₂ q))

pub dvp_order : (b₁ b₂ : List ℕ) → Perm (records b₁) (records b₂) → dvp b₁ ≡ dvp b₂
dvp_order b₁ b₂ p = fun_ext (λ q. dvp-sum b₁ q ∙ sum-perm (dvp_of q) (records b₁) (records b₂) p ∙ sym (dvp-sum b₂ q))

-- ---- an edit in group g of book k

-- the fields of a key
pub key-place : (q k x s : ℕ) → s < places → x < 2 → bits q 0 10 ≡ position k x s → bits q 0 8 ≡ s
key-place q k x s hs hx e = omega arith

pub key-fail : (q k x s : ℕ) → s < places → x < 2 → k < 2 → bits q 0 10 ≡ position k x s → bits q 9 1 ≡ k
key-fail q k x s hs hx hk e = omega arith

module _ (d : List ℕ) (g k : ℕ) (s x h : ℕ) (hs : s < places) (hx : x < 2) (hh : h < 2) (other : series_group d s ≡ g → h ≡ k → ⊥) where
  -- a struck record is of no position of another line
  apart : (w : List ℕ) → not (of_line d g k w) ≡ false → eqb (key_of w) (position h x s) ≡ false
  apart w e =
      let q : ℕ = payload (get_or w 0 0) in
      let o = not-false (of_line d g k w) e in
      let a = eqb-true (series_group d (bits q 0 8)) g (and_left (eqb (series_group d (bits q 0 8)) g) (eqb (bits q 9 1) k) o) in
      let c = eqb-true (bits q 9 1) k (and_right (eqb (series_group d (bits q 0 8)) g) (eqb (bits q 9 1) k) o) in
      ne_eqb (key_of w) (position h x s)
      (λ z. other (ap (series_group d) (sym (key-place q h x s hs hx z)) ∙ a) (sym (key-fail q h x s hs hx hh z) ∙ c))

  kept : (f : List ℕ → ℤ) (b₁ b₂ : List ℕ) → Edit d g k b₁ b₂
      → ((w : List ℕ) → not (of_line d g k w) ≡ false → f w ≡ pos 0)
      → sum_of f (records b₁) ≡ sum_of f (records b₂)
  kept f b₁ b₂ e z =
      sym (sum-keep (λ w. not (of_line d g k w)) f z (records b₁))
      ∙ sum-perm f (struck d g k b₁) (struck d g k b₂) e
      ∙ sum-keep (λ w. not (of_line d g k w)) f z (records b₂)

  net_kept : (b₁ b₂ : List ℕ) → Edit d g k b₁ b₂ → net b₁ (position h x s) ≡ net b₂ (position h x s)
  net_kept b₁ b₂ e =
      net-sum b₁ (position h x s)
      ∙ kept (net_of (position h x s)) b₁ b₂ e (λ w q. ap (λ (t : Bool). cond t (pos (payload (get_or w 2 0)) -ℤ pos (payload (get_or w 1 0))) (pos 0)) (apart w q))
      ∙ sym (net-sum b₂ (position h x s))

  dvp_kept : (b₁ b₂ : List ℕ) → Edit d g k b₁ b₂ → dvp b₁ (position h x s) ≡ dvp b₂ (position h x s)
  dvp_kept b₁ b₂ e =
      dvp-sum b₁ (position h x s)
      ∙ kept (dvp_of (position h x s)) b₁ b₂ e (λ w q. ap (λ (t : Bool). cond t (amount (get_or w 3 0) (get_or w 4 0) (get_or w 5 0)) (pos 0)) (apart w q))
      ∙ sym (dvp-sum b₂ (position h x s))

-- an accepted day file has so many classes and series at most
module _ (d : List ℕ) (r : DayRows d) where
  abbrev front : Bool
  front = eqb (length d) 0 || not (eqb (kind (day_header d)) 1) || ltb 0 (bits (payload (day_header d)) 16 13)

  pub few_classes : class_count d ≤ most_classes
  unfolding row10
  few_classes = ltb-false most_classes (class_count d) (or_right front (ltb most_classes (class_count d)) (or_left (front || ltb most_classes (class_count d)) (ltb most_series (series_count d)) r.at10))

  pub few_series : series_count d ≤ most_series
  unfolding row10
  few_series = ltb-false most_series (series_count d) (or_right (front || ltb most_classes (class_count d)) (ltb most_series (series_count d)) r.at10)

-- so the positions of every other line agree
pub agree : (d b₁ b₂ : List ℕ) (g k g' k' : ℕ) → DayRows d → Edit d g k b₁ b₂ → k' < 2 → (g' ≡ g → k' ≡ k → ⊥)
    → Agree d (net b₁) (dvp b₁) (net b₂) (dvp b₂) k' g'
agree d b₁ b₂ g k g' k' r e hk other =
    let f = few_series d r in
    record {
      nets = λ s x p q o. net_kept d g k s x k' (omega arith) q hk (λ z. other (sym o ∙ z)) b₁ b₂ e;
      dvps = λ s x p q o. dvp_kept d g k s x k' (omega arith) q hk (λ z. other (sym o ∙ z)) b₁ b₂ e;
    }
