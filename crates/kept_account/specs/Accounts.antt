-- The account as the code keeps it, of nets n and DVPs v; what a trade w makes of its position; the account after it.
use Rattle.std.specs.Prelude.{◌≡◌, Bool, true, false, cond, List, ℕ, ◌+◌, ◌≤◌, ◌<◌, ℤ, pos, nat_abs, ◌-ℤ◌, length, get_or, set, Option, Some, None, is_some}
use Rattle.std.proofs.Math.Path.{refl, sym, ap, subst}
use Rattle.std.proofs.Common.{◌∙◌, arith, true≢false}
use Rattle.numbers.specs.Abs.{nat_abs-+, nat_abs-pos-sub}
use Rattle.numbers.specs.Table.{tabulate, entry, length-tabulate, tabulate-set}
use Rattle.model.specs.Limits.{position_limit, dvp_amount_limit, quantity_limit}
use Rattle.model.specs.Words.{payload}
use Rattle.model.specs.DayFile.{series_count}
use Rattle.model.specs.Netting.{position_count}
use Rattle.model.specs.Steps.Margin.{margin}
use Rattle.model.specs.Locality.{book_of, group_of}
use Rattle.model.specs.Rewriting.{held_records}
use Rattle.model.proofs.Fewest.{Few}
use Rattle.model.proofs.Nets.{key_of}
use Rattle.positions.specs.Books.{book_number}
use Rattle.positions.specs.declared.Book.{Book}
use Rattle.positions.specs.declared.Book.TheVariants.{Ordinary, Fail}
use Rattle.day_steps.specs.Kept.{Kept, kept_few, kept_net_table, kept_dvp_table, kept_net_limit, kept_dvp_limit}
use Rattle.day_steps.specs.Step.{place_of, with_net, with_dvp, other_net, other_dvp, own_net, step_refused}
use Rattle.kept_account.specs.declared.account.Account.{Account}
use Rattle.kept_account.specs.declared.margins.Margins.{Margins}
use Rattle.kept_account.specs.declared.position.Moved.{Moved}
use Rattle.kept_account.specs.Margins.{margins_of, with_line, Room, own_book, own_room, other_book}

-- ---- the account

abbrev pub nets_of : Account → ℕ → ℤ
nets_of a = entry a.nets

abbrev pub dvps_of : Account → ℕ → ℤ
dvps_of a = entry a.dvps

abbrev pub account_of : List ℕ → (ℕ → ℤ) → (ℕ → ℤ) → Account
account_of d n v =
    record {
      nets = tabulate position_count n;
      dvps = tabulate position_count v;
      held = length (held_records n v);
      ordinary = margins_of d n v 0;
      fail = margins_of d n v 1;
    }

-- it is that of its own tables, which are kept
pub record Whole (d : List ℕ) (a : Account) : Type 0 where
  pub is : a ≡ account_of d (nets_of a) (dvps_of a)
  pub kept : Kept d (nets_of a) (dvps_of a)

-- .. and what its tables are, without the day file
pub record Tables (a : Account) : Type 0 where
  pub nets_length : length a.nets ≡ position_count
  pub dvps_length : length a.dvps ≡ position_count
  pub net_limit : (p : ℕ) → nat_abs (nets_of a p) ≤ position_limit
  pub dvp_limit : (p : ℕ) → nat_abs (dvps_of a p) ≤ dvp_amount_limit
  pub held_value : a.held ≡ length (held_records (nets_of a) (dvps_of a))

-- ---- a trade's position

abbrev pub position_with : (ℕ → ℤ) → (ℕ → ℤ) → List ℕ → Moved
position_with n v w =
    record {
      key = key_of w;
      net = with_net n w (key_of w);
      dvp = with_dvp v w (key_of w);
      held = length (held_records (with_net n w) (with_dvp v w));
    }

abbrev pub moved_by : List ℕ → (ℕ → ℤ) → (ℕ → ℤ) → List ℕ → Option Moved
moved_by d n v w = cond (step_refused d n v w) None (Some (position_with n v w))

-- ---- the account with a line computed again, and after a trade

abbrev pub margins_in : Account → Book → Margins
margins_in a Ordinary = a.ordinary
margins_in a Fail = a.fail

abbrev pub with_margin : List ℕ → Account → Book → ℕ → Account
with_margin d a Ordinary g =
    record { nets = a.nets; dvps = a.dvps; held = a.held; ordinary = with_line a.ordinary g (margin d (nets_of a) (dvps_of a) 0 g); fail = a.fail }
with_margin d a Fail g =
    record { nets = a.nets; dvps = a.dvps; held = a.held; ordinary = a.ordinary; fail = with_line a.fail g (margin d (nets_of a) (dvps_of a) 1 g) }

abbrev pub stepped : List ℕ → Account → List ℕ → Account
stepped d a w =
    cond (step_refused d (nets_of a) (dvps_of a) w) a (account_of d (with_net (nets_of a) w) (with_dvp (dvps_of a) w))

-- ---- laws

module _ (d : List ℕ) (n v : ℕ → ℤ) (k : Kept d n v) where
  pub account_whole : Whole d (account_of d n v)
  account_whole =
      record {
        is = λ i. account_of d (sym (kept_net_table d n v k) i) (sym (kept_dvp_table d n v k) i);
        kept = subst (λ (u : ℕ → ℤ). Kept d u (dvps_of (account_of d n v))) (sym (kept_net_table d n v k)) (subst (λ (u : ℕ → ℤ). Kept d n u) (sym (kept_dvp_table d n v k)) k);
      }

pub whole_tables : (d : List ℕ) (a : Account) → Whole d a → Tables a
whole_tables d a w =
    record {
      nets_length = ap (λ (b : Account). length b.nets) w.is ∙ length-tabulate position_count (nets_of a);
      dvps_length = ap (λ (b : Account). length b.dvps) w.is ∙ length-tabulate position_count (dvps_of a);
      net_limit = kept_net_limit d (nets_of a) (dvps_of a) w.kept;
      dvp_limit = kept_dvp_limit d (nets_of a) (dvps_of a) w.kept;
      held_value = ap (λ (b : Account). b.held) w.is;
    }

-- ---- the steps of adding

-- what is made of a position is made where the trade is not refused
pub moved_some : (d : List ℕ) (n v : ℕ → ℤ) (w : List ℕ) (m : Moved) → moved_by d n v w ≡ Some m → (step_refused d n v w ≡ false) × (position_with n v w ≡ m)
moved_some d n v w m = by (step_refused d n v w) refl
  where
    by : (t : Bool) → step_refused d n v w ≡ t → cond t None (Some (position_with n v w)) ≡ Some m → (step_refused d n v w ≡ false) × (position_with n v w ≡ m)
    by true q e = absurd (true≢false (sym (ap is_some e)))
    by false q e = (q, cc)

-- the new net fits
pub net_bound : (n v : ℕ → ℤ) (w : List ℕ) → nat_abs (n (key_of w)) ≤ position_limit → payload (get_or w 1 0) ≤ quantity_limit → payload (get_or w 2 0) ≤ quantity_limit
    → nat_abs (with_net n w (key_of w)) ≤ position_limit + quantity_limit
net_bound n v w h l s =
    rw (own_net n v w)
    (omega (
      arith,
      h,
      nat_abs-+ (n (key_of w)) (pos (payload (get_or w 2 0)) -ℤ pos (payload (get_or w 1 0))),
      nat_abs-pos-sub (payload (get_or w 2 0)) (payload (get_or w 1 0)) quantity_limit s l,
    ))

module _ (d : List ℕ) (n v : ℕ → ℤ) (w : List ℕ) (before : Kept d n v) (after : Kept d (with_net n w) (with_dvp v w)) where
  pub nets_stored : set (tabulate position_count n) (key_of w) (with_net n w (key_of w)) ≡ tabulate position_count (with_net n w)
  nets_stored = tabulate-set position_count n (with_net n w) (key_of w) _ (omega arith) refl (λ p l o. sym (other_net n v w p (λ e. o (sym e))))

  pub dvps_stored : set (tabulate position_count v) (key_of w) (with_dvp v w (key_of w)) ≡ tabulate position_count (with_dvp v w)
  dvps_stored = tabulate-set position_count v (with_dvp v w) (key_of w) _ (omega arith) refl (λ p l o. sym (other_dvp n v w p (λ e. o (sym e))))

  -- the position moved, and these margins
  abbrev with_margins : Margins → Margins → Account
  with_margins ordinary fail =
      record {
        nets = tabulate position_count (with_net n w);
        dvps = tabulate position_count (with_dvp v w);
        held = length (held_records (with_net n w) (with_dvp v w));
        ordinary = ordinary;
        fail = fail;
      }

  -- .. as they were
  abbrev pub position_moved : Account
  position_moved = with_margins (margins_of d n v 0) (margins_of d n v 1)

  nets_are : nets_of position_moved ≡ with_net n w
  nets_are = kept_net_table d (with_net n w) (with_dvp v w) after

  dvps_are : dvps_of position_moved ≡ with_dvp v w
  dvps_are = kept_dvp_table d (with_net n w) (with_dvp v w) after

  pub moved_few : Few d (nets_of position_moved) (dvps_of position_moved)
  moved_few = rw (nets_are, dvps_are) (kept_few d (with_net n w) (with_dvp v w) after)

  module _ (h : place_of w < series_count d) where
    pub moved_room : (book : Book) → book_number book ≡ book_of w
        → Room (margins_in position_moved book) (group_of d w) (margin d (nets_of position_moved) (dvps_of position_moved) (book_number book) (group_of d w))
    moved_room Ordinary e = rw (nets_are, dvps_are) (own_room d n v w before after h 0 e)
    moved_room Fail e = rw (nets_are, dvps_are) (own_room d n v w before after h 1 e)

    -- the line computed again is that of the new tables, put into its own book
    line_put : (k : ℕ) → k ≡ book_of w
        → with_line (margins_of d n v k) (group_of d w) (margin d (nets_of position_moved) (dvps_of position_moved) k (group_of d w)) ≡ margins_of d (with_net n w) (with_dvp v w) k
    line_put k e = (λ i. with_line (margins_of d n v k) (group_of d w) (margin d (nets_are i) (dvps_are i) k (group_of d w))) ∙ own_book d n v w before after h k e

    pub moved_margin : (book : Book) → book_number book ≡ book_of w → with_margin d position_moved book (group_of d w) ≡ account_of d (with_net n w) (with_dvp v w)
    moved_margin Ordinary e = λ i. with_margins (line_put 0 e i) (other_book d n v w before after h 1 (omega arith) (λ z. omega (arith, z, e)) i)
    moved_margin Fail e = λ i. with_margins (other_book d n v w before after h 0 (omega arith) (λ z. omega (arith, z, e)) i) (line_put 1 e i)
