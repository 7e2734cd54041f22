-- Sums over the classes of a group, as a loop over the classes has them.
use Rattle.std.specs.Prelude.{◌≡◌, List, ℕ, ◌+◌, ◌≤◌, ◌<◌, eqb, ℤ, pos, nat_abs, ◌+ℤ◌, get_or}
use Rattle.std.proofs.Common.{sym, ◌∙◌, eq-eqb, ne_eqb}
use Rattle.margin.specs.declared.group.Amounts.{Amounts}
use Rattle.numbers.specs.Sums.{sum_where, sum_where-zero, sum_where_yes, sum_where_no}
use Rattle.numbers.specs.Table.{tabulate, get_or-tabulate, tabulate_ext}
use Rattle.model.specs.DayFile.{class_count, group, offset}
use Rattle.model.specs.Steps.Spread.{spread}
use Rattle.model.specs.Steps.Mtm.{mtm}
use Rattle.model.specs.Steps.Premium.{premium}
use Rattle.model.specs.Steps.Minimum.{minimum}
use Rattle.model.specs.Steps.Points.{class_point}
use Rattle.model.specs.Steps.Additional.{after_offset}
use Rattle.model.specs.Limits.{worth_limit, spread_limit, mtm_limit, point_count, group_count}
use Rattle.model.proofs.Accepted.{DayRows}
use Rattle.model.proofs.Records.{Budget}
use Rattle.model.proofs.Bounds.{class_spread, class_mtm, class_premium, class_minimum, class_offset, spread-over, mtm-over, premium-over, minimum-over, point_over}

-- a class's amount at a point after its offset
abbrev pub offset_point : List ℕ → (ℕ → ℤ) → ℕ → ℕ → ℕ → ℤ
offset_point d n k j c = after_offset (offset d c) (class_point d n k c j)

-- of the classes of group g below m
abbrev pub over : List ℕ → ℕ → ℕ → (ℕ → ℤ) → ℤ
over d g m f = sum_where m (λ c. eqb (group d c) g) f

-- ---- one more class, of the group or not

module _ (d : List ℕ) (g : ℕ) (f : ℕ → ℤ) where
  pub over_none : pos 0 ≡ over d g 0 f
  over_none = sym (sum_where-zero (λ c. eqb (group d c) g) f)

  pub over_yes : (c : ℕ) → group d c ≡ g → over d g c f +ℤ f c ≡ over d g (c + 1) f
  over_yes c e = sym (sum_where_yes c (λ c. eqb (group d c) g) f (eq-eqb (group d c) g e))

  pub over_no : (c : ℕ) → (group d c ≡ g → ⊥) → over d g c f ≡ over d g (c + 1) f
  over_no c e = sym (sum_where_no c (λ c. eqb (group d c) g) f (ne_eqb (group d c) g e))

-- the same of ten amounts
abbrev pub points_over : List ℕ → (ℕ → ℤ) → ℕ → ℕ → ℕ → List ℤ
points_over d n k g m = tabulate point_count (λ j. over d g m (offset_point d n k j))

module _ (d : List ℕ) (n : ℕ → ℤ) (k g : ℕ) where
  pub points_none : tabulate point_count (λ j. pos 0) ≡ points_over d n k g 0
  points_none = tabulate_ext point_count (λ j. pos 0) _ (λ j h. over_none d g (offset_point d n k j))

  pub points_yes : (c : ℕ) → group d c ≡ g
      → tabulate point_count (λ j. get_or (points_over d n k g c) j (pos 0) +ℤ get_or (tabulate point_count (λ j. offset_point d n k j c)) j (pos 0)) ≡ points_over d n k g (c + 1)
  points_yes c e =
      tabulate_ext point_count _ _
      (λ j h.
      (λ i. get_or-tabulate point_count (λ j. over d g c (offset_point d n k j)) j (pos 0) h i +ℤ get_or-tabulate point_count (λ j. offset_point d n k j c) j (pos 0) h i)
      ∙ over_yes d g (offset_point d n k j) c e)

  pub points_no : (c : ℕ) → (group d c ≡ g → ⊥) → points_over d n k g c ≡ points_over d n k g (c + 1)
  points_no c e = tabulate_ext point_count _ _ (λ j h. over_no d g (offset_point d n k j) c e)

-- ---- the amounts of a group together: spread, MTM, premium, minimum, and the ten points

abbrev pub no_amounts : Amounts
no_amounts = record { spread = pos 0; mtm = pos 0; premium = pos 0; minimum = pos 0; points = record { at = tabulate point_count (λ j. pos 0) } }

-- two sets of amounts added
abbrev pub added : Amounts → Amounts → Amounts
added a b =
    record {
      spread = a.spread +ℤ b.spread;
      mtm = a.mtm +ℤ b.mtm;
      premium = a.premium +ℤ b.premium;
      minimum = a.minimum +ℤ b.minimum;
      points = record { at = tabulate point_count (λ j. get_or a.points.at j (pos 0) +ℤ get_or b.points.at j (pos 0)) };
    }

-- those of class c
abbrev pub class_amounts : List ℕ → (ℕ → ℤ) → (ℕ → ℤ) → ℕ → ℕ → Amounts
class_amounts d n v k c =
    record {
      spread = spread d n k c;
      mtm = mtm d n v k c;
      premium = premium d n k c;
      minimum = minimum d n k c;
      points = record { at = tabulate point_count (λ j. offset_point d n k j c) };
    }

-- those of the classes of group g below m
abbrev pub amounts_below : List ℕ → (ℕ → ℤ) → (ℕ → ℤ) → ℕ → ℕ → ℕ → Amounts
amounts_below d n v k g m =
    record {
      spread = over d g m (spread d n k);
      mtm = over d g m (mtm d n v k);
      premium = over d g m (premium d n k);
      minimum = over d g m (minimum d n k);
      points = record { at = points_over d n k g m };
    }

-- so small that two of them add up within an i64
pub record Small (a : Amounts) : Type 0 where
  pub spread_small : nat_abs a.spread ≤ spread_limit
  pub mtm_small : nat_abs a.mtm ≤ mtm_limit
  pub premium_small : nat_abs a.premium ≤ worth_limit
  pub minimum_small : nat_abs a.minimum ≤ worth_limit
  pub points_small : (j : ℕ) → j < point_count → nat_abs (get_or a.points.at j (pos 0)) ≤ worth_limit

module _ (d : List ℕ) (n v : ℕ → ℤ) (k g : ℕ) where
  pub none_below : no_amounts ≡ amounts_below d n v k g 0
  none_below = λ i.
      record {
        spread = over_none d g (spread d n k) i;
        mtm = over_none d g (mtm d n v k) i;
        premium = over_none d g (premium d n k) i;
        minimum = over_none d g (minimum d n k) i;
        points = record { at = points_none d n k g i };
      }

  pub class_skipped : (c : ℕ) → (group d c ≡ g → ⊥) → amounts_below d n v k g c ≡ amounts_below d n v k g (c + 1)
  class_skipped c e = λ i.
      record {
        spread = over_no d g (spread d n k) c e i;
        mtm = over_no d g (mtm d n v k) c e i;
        premium = over_no d g (premium d n k) c e i;
        minimum = over_no d g (minimum d n k) c e i;
        points = record { at = points_no d n k g c e i };
      }

  pub class_added : (c : ℕ) → group d c ≡ g → added (amounts_below d n v k g c) (class_amounts d n v k c) ≡ amounts_below d n v k g (c + 1)
  class_added c e = λ i.
      record {
        spread = over_yes d g (spread d n k) c e i;
        mtm = over_yes d g (mtm d n v k) c e i;
        premium = over_yes d g (premium d n k) c e i;
        minimum = over_yes d g (minimum d n k) c e i;
        points = record { at = points_yes d n k g c e i };
      }

  module _ (r : DayRows d) (w : Budget d n v) (hk : k < 2) where
    pub below_small : (m : ℕ) → g < group_count → m ≤ class_count d → Small (amounts_below d n v k g m)
    below_small m hg hm =
        record {
          spread_small = spread-over d n v r w k g m hk hg hm;
          mtm_small = mtm-over d n v r w k g m hk hg hm;
          premium_small = premium-over d n v r w k g m hk hg hm;
          minimum_small = minimum-over d n v r w k g m hk hg hm;
          points_small =
              λ j h. rw (get_or-tabulate point_count (λ j. over d g m (offset_point d n k j)) j (pos 0) h) (point_over d n v r w k g m hk hg hm j h);
        }

    pub class_small : (c : ℕ) → c < class_count d → Small (class_amounts d n v k c)
    class_small c hc =
        record {
          spread_small = class_spread d n v r w k c hk hc;
          mtm_small = class_mtm d n v r w k c hk hc;
          premium_small = class_premium d n v r w k c hk hc;
          minimum_small = class_minimum d n v r w k c hk hc;
          points_small = λ j h. rw (get_or-tabulate point_count (λ j. offset_point d n k j c) j (pos 0) h) (class_offset d n v r w k c hk hc j h);
        }
