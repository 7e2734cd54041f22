-- One step over tables: the nets n and the DVPs v of an account, and the record w that is added to it. Its own position alone changes.
use Rattle.std.specs.Prelude.{◌≡◌, ◌≢◌, Bool, true, false, ◌||◌, cond, List, ℕ, ◌*◌, ◌<◌, ltb, eqb, ℤ, pos, nat_abs, ◌+ℤ◌, ◌-ℤ◌, length, get_or}
use Rattle.std.proofs.Math.Path.{refl, sym, ap}
use Rattle.std.proofs.Common.{◌∙◌, arith, eq-eqb, ne_eqb}
use Rattle.std.proofs.Math.IntN.{+ℤ_idr}
use Rattle.model.specs.Limits.{position_limit, dvp_amount_limit, most_records, group_count}
use Rattle.model.specs.Words.{payload, bits, amount}
use Rattle.model.specs.DayFile.{series_count, series_class, series_group, multiplier}
use Rattle.model.specs.Netting.{position}
use Rattle.model.specs.Locality.{book_of, group_of}
use Rattle.model.specs.Rewriting.{held_records}
use Rattle.model.proofs.Accepted.{DayRows}
use Rattle.model.proofs.GoodRecord.{bad}
use Rattle.model.proofs.Limits.{group_limit}
use Rattle.model.proofs.Lines.{Agree}
use Rattle.model.proofs.Nets.{key_of, net_of, dvp_of, key-place, key-fail, few_series}
use Rattle.model.proofs.Together.{class_below}

-- the place of the record's series
abbrev pub place_of : List ℕ → ℕ
place_of w = bits (payload (get_or w 0 0)) 0 8

-- ---- the tables after it

abbrev pub with_net : (ℕ → ℤ) → List ℕ → ℕ → ℤ
with_net n w p = n p +ℤ net_of p w

abbrev pub with_dvp : (ℕ → ℤ) → List ℕ → ℕ → ℤ
with_dvp v w p = v p +ℤ dvp_of p w

-- what a record of another key adds
same : (x y : ℤ) (t : Bool) → t ≡ false → x +ℤ cond t y (pos 0) ≡ x
same x y t e = ap (λ (s : Bool). x +ℤ cond s y (pos 0)) e ∙ +ℤ_idr x

module _ (n v : ℕ → ℤ) (w : List ℕ) (p : ℕ) (o : key_of w ≢ p) where
  pub other_net : with_net n w p ≡ n p
  other_net = same (n p) (pos (payload (get_or w 2 0)) -ℤ pos (payload (get_or w 1 0))) (eqb (key_of w) p) (ne_eqb (key_of w) p o)

  pub other_dvp : with_dvp v w p ≡ v p
  other_dvp = same (v p) (amount (get_or w 3 0) (get_or w 4 0) (get_or w 5 0)) (eqb (key_of w) p) (ne_eqb (key_of w) p o)

-- and one of this key
own : (x y : ℤ) (t : Bool) → t ≡ true → x +ℤ cond t y (pos 0) ≡ x +ℤ y
own x y t e = ap (λ (s : Bool). x +ℤ cond s y (pos 0)) e

module _ (n v : ℕ → ℤ) (w : List ℕ) where
  pub own_net : with_net n w (key_of w) ≡ n (key_of w) +ℤ (pos (payload (get_or w 2 0)) -ℤ pos (payload (get_or w 1 0)))
  own_net = own (n (key_of w)) _ (eqb (key_of w) (key_of w)) (eq-eqb (key_of w) (key_of w) refl)

  pub own_dvp : with_dvp v w (key_of w) ≡ v (key_of w) +ℤ amount (get_or w 3 0) (get_or w 4 0) (get_or w 5 0)
  own_dvp = own (v (key_of w)) _ (eqb (key_of w) (key_of w)) (eq-eqb (key_of w) (key_of w) refl)

-- ---- the test of the record

module _ (d : List ℕ) (n v : ℕ → ℤ) (w : List ℕ) where
  -- row 30 of its position
  abbrev pub net_refused : Bool
  net_refused = ltb position_limit (nat_abs (with_net n w (key_of w)) * multiplier d (place_of w))

  -- row 31 of its position
  abbrev pub dvp_refused : Bool
  dvp_refused = ltb dvp_amount_limit (nat_abs (with_dvp v w (key_of w)))

  -- row 32
  abbrev pub space_refused : Bool
  space_refused = ltb most_records (length (held_records (with_net n w) (with_dvp v w)))

  -- rows 22 to 28 of its words, then those
  unfoldable pub step_refused : Bool
  step_refused = bad d w || (net_refused || (dvp_refused || space_refused))

-- ---- the other lines

module _ (d : List ℕ) (days : DayRows d) (w : List ℕ) where
  apart : (g k s x : ℕ) → s < series_count d → x < 2 → k < 2 → series_group d s ≡ g → (g ≡ group_of d w → k ≡ book_of w → ⊥) → key_of w ≢ position k x s
  apart g k s x hs hx hk e o =
      let q : ℕ = payload (get_or w 0 0) in
      let few = few_series d days in
      λ z. o (sym e ∙ ap (series_group d) (sym (key-place q k x s (omega (arith, few)) hx z))) (sym (key-fail q k x s (omega (arith, few)) hx hk z))

  -- their positions are as they were
  pub lines_agree : (n v : ℕ → ℤ) (g k : ℕ) → k < 2 → (g ≡ group_of d w → k ≡ book_of w → ⊥) → Agree d n v (with_net n w) (with_dvp v w) k g
  lines_agree n v g k hk o =
      record {
        nets = λ s x hs hx e. sym (other_net n v w (position k x s) (apart g k s x hs hx hk e o));
        dvps = λ s x hs hx e. sym (other_dvp n v w (position k x s) (apart g k s x hs hx hk e o));
      }

  pub group_below : place_of w < series_count d → group_of d w < group_count
  unfolding series_group
  group_below h = omega (arith, group_limit d days (series_class d (place_of w)) (class_below d days (place_of w) h))
