-- The margins of a book as the code keeps them: of each group's line, and their total; what a step does to them, and that it fits.
use Rattle.std.specs.Prelude.{◌≡◌, ◌≢◌, List, ℕ, ◌+◌, ◌-◌, ◌^◌, ◌<◌, ℤ, pos, nat_abs, ◌+ℤ◌, ◌-ℤ◌, length, get_or, set}
use Rattle.std.proofs.Math.Path.{refl, sym, ap}
use Rattle.std.proofs.Common.{◌∙◌, arith}
use Rattle.numbers.specs.Abs.{nat_abs-pos-sub}
use Rattle.numbers.specs.Extremes.{max-zero}
use Rattle.numbers.specs.Line.{up}
use Rattle.numbers.specs.Sums.{sum_where, sum_to_more}
use Rattle.numbers.specs.Table.{tabulate, length-tabulate, get_or-tabulate, tabulate_ext, tabulate-set}
use Rattle.model.specs.DayFile.{series_count}
use Rattle.model.specs.Limits.{group_count}
use Rattle.model.specs.Steps.Lines.{has_line, total}
use Rattle.model.specs.Steps.Margin.{group_sum, margin}
use Rattle.model.specs.Locality.{book_of, group_of}
use Rattle.model.proofs.Bounds.{margin_small, total_small}
use Rattle.model.proofs.Read.{adds}
use Rattle.day_steps.specs.Kept.{Kept, days, kept_budget}
use Rattle.day_steps.specs.Margins.{line_margin, other_margin, other_total, book_moves}
use Rattle.day_steps.specs.Step.{place_of, with_net, with_dvp, group_below}
use Rattle.kept_account.specs.declared.margins.Margins.{Margins}

module _ (d : List ℕ) (n v : ℕ → ℤ) (k : ℕ) where
  -- of the nets n and the DVPs v in book k
  abbrev pub margins_of : Margins
  margins_of = record { lines = tabulate group_count (margin d n v k); total = total d n n v k }

  -- the total of the groups below g
  abbrev pub total_below : ℕ → ℤ
  total_below g = sum_where g (has_line d n v k) (margin d n v k)

  -- whether a group has a line or not, its margin is what it adds
  pub total_more : (g : ℕ) → total_below (g + 1) ≡ total_below g +ℤ margin d n v k g
  total_more g = sum_to_more g (adds d n n v k) ∙ ap (λ x. total_below g +ℤ x) (line_margin d n v k g)

-- with another margin z of the line of group g: the total moves by its change
abbrev pub with_line : Margins → ℕ → ℤ → Margins
with_line m g z = record { lines = set m.lines g z; total = m.total +ℤ (z -ℤ get_or m.lines g (pos 0)) }

-- the group is there, and what is read and computed fits
pub record Room (m : Margins) (g : ℕ) (z : ℤ) : Type 0 where
  pub inside : g < length m.lines
  pub total_size : nat_abs m.total < 2 ^ 63
  pub line_size : nat_abs (get_or m.lines g (pos 0)) < 2 ^ 63
  pub change_size : nat_abs (z -ℤ get_or m.lines g (pos 0)) < 2 ^ 63
  pub new_size : nat_abs (m.total +ℤ (z -ℤ get_or m.lines g (pos 0))) < 2 ^ 63

-- a margin is not negative
not_negative : (d : List ℕ) (n v : ℕ → ℤ) (k g : ℕ) → margin d n v k g ≡ pos (up (group_sum d n v k g))
unfolding margin
not_negative d n v k g = max-zero (group_sum d n v k g)

-- so the change of one is no larger than the larger of the two
apart : (x y : ℤ) (a b : ℕ) → x ≡ pos a → y ≡ pos b → nat_abs x < 2 ^ 63 → nat_abs y < 2 ^ 63 → nat_abs (x -ℤ y) < 2 ^ 63
apart x y a b p q h l =
    let ha : a < 2 ^ 63 = rw p at h in
    let hb : b < 2 ^ 63 = rw q at l in
    rw (p, q) (omega (arith, nat_abs-pos-sub a b (2 ^ 63 - 1) (omega arith) (omega arith)))

-- ---- a step that adds the record w: before it n and v, after it these

module _ (d : List ℕ) (n v : ℕ → ℤ) (w : List ℕ) (before : Kept d n v) (after : Kept d (with_net n w) (with_dvp v w)) (h : place_of w < series_count d) where
  abbrev n' : ℕ → ℤ
  n' = with_net n w

  abbrev v' : ℕ → ℤ
  v' = with_dvp v w

  abbrev g : ℕ
  g = group_of d w

  below : g < group_count
  below = group_below d (days d n v before) w h

  module _ (k : ℕ) (e : k ≡ book_of w) where
    old : get_or ((margins_of d n v k).lines) g (pos 0) ≡ margin d n v k g
    old = get_or-tabulate group_count (margin d n v k) g (pos 0) below

    total_is : total d n n v k +ℤ (margin d n' v' k g -ℤ margin d n v k g) ≡ total d n' n' v' k
    total_is = rw e (sym (book_moves d (days d n v before) n v w h))

    -- its own line's margin put into its own book
    pub own_book : with_line (margins_of d n v k) (group_of d w) (margin d (with_net n w) (with_dvp v w) k (group_of d w)) ≡ margins_of d (with_net n w) (with_dvp v w) k
    own_book =
        λ i.
        record {
          lines = tabulate-set group_count (margin d n v k) (margin d n' v' k) g (margin d n' v' k g) below refl
              (λ j l o. other_margin d (days d n v before) n v w j k (omega (arith, e)) (λ p q. o p)) i;
          total = (ap (λ x. total d n n v k +ℤ (margin d n' v' k g -ℤ x)) old ∙ total_is) i;
        }

    pub own_room : Room (margins_of d n v k) (group_of d w) (margin d (with_net n w) (with_dvp v w) k (group_of d w))
    own_room =
        let hk : k < 2 = omega (arith, e) in
        let z = days d n v before in
        let x = margin_small d n v z (kept_budget d n v before) k g hk below in
        let y = margin_small d n' v' z (kept_budget d n' v' after) k g hk below in
        record {
          inside = omega (arith, below, length-tabulate group_count (margin d n v k));
          total_size = total_small d n v z (kept_budget d n v before) n k hk;
          line_size = rw old x;
          change_size = rw old (apart (margin d n' v' k g) (margin d n v k g) _ _ (not_negative d n' v' k g) (not_negative d n v k g) y x);
          new_size = rw (old, total_is) (total_small d n' v' z (kept_budget d n' v' after) n' k hk);
        }

  -- the other book
  pub other_book : (k : ℕ) → k < 2 → k ≢ book_of w → margins_of d n v k ≡ margins_of d (with_net n w) (with_dvp v w) k
  other_book k hk o =
      let z = days d n v before in
      λ i.
      record {
        lines = tabulate_ext group_count (margin d n v k) (margin d n' v' k) (λ j l. other_margin d z n v w j k hk (λ p q. o q)) i;
        total = other_total d z n v w h k hk o i;
      }
