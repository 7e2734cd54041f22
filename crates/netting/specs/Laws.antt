-- One more record in a table of sums by key, the size of its entries, and what is read from it.
use Rattle.std.specs.Prelude.{◌≡◌, cond, List, ℕ, ◌+◌, ◌*◌, ◌^◌, ◌≤◌, ◌<◌, eqb, ℤ, pos, nat_abs, ◌+ℤ◌, ◌-ℤ◌, length, get_or, set}
use Rattle.std.proofs.Common.{ap, ◌∙◌, arith, SFits, to_z, of_z}
use Rattle.std.specs.Int.{w64}
use Rattle.numbers.specs.Abs.{cond_ind, nat_abs-+, nat_abs-pos-sub, fits_by, back}
use Rattle.numbers.specs.Slots.{slot, slots, slots_more}
use Rattle.numbers.specs.Sums.{sum_to_abs}
use Rattle.numbers.specs.Table.{tabulate, length-tabulate, get_or-tabulate}
use Rattle.model.specs.Limits.{quantity_limit, dvp_amount_limit, most_records}
use Rattle.model.specs.Batch.{record_count, long, short}
use Rattle.model.specs.Netting.{position_count}
use Rattle.netting.specs.Limits.{Limited}

-- what record r adds to a net
abbrev pub change : List ℕ → ℕ → ℤ
change b r = pos (short b r) -ℤ pos (long b r)

-- the sums by key are no larger than so many records allow
pub slot_size : (key : ℕ → ℕ) (f : ℕ → ℤ) (n p limit : ℕ) → ((i : ℕ) → i < n → nat_abs (f i) ≤ limit) → nat_abs (slot key f n p) ≤ n * limit
slot_size key f n p limit small =
    sum_to_abs n (λ i. cond (eqb (key i) p) (f i) (pos 0)) limit
    (λ i h. cond_ind (eqb (key i) p) (f i) (pos 0) (λ y. nat_abs y ≤ limit) (λ t. small i h) (λ t. omega arith))

module _ (m : ℕ) (key : ℕ → ℕ) (f : ℕ → ℤ) (l : List ℤ) (r k : ℕ) (z : ℤ) (e : l ≡ slots m key f r) (q : k ≡ key r) (w : z ≡ f r) (h : key r < m) where
  -- the entry that record r meets
  entry : get_or l k (pos 0) ≡ slot key f r (key r)
  entry = (λ i. get_or (e i) (q i) (pos 0)) ∙ get_or-tabulate m (slot key f r) (key r) (pos 0) h

  pub slot_inside : k < length l
  slot_inside = omega (arith, q, ap length e, length-tabulate m (slot key f r))

  pub slot_added : set l k (get_or l k (pos 0) +ℤ z) ≡ slots m key f (r + 1)
  slot_added = (λ i. set (e i) (q i) (entry i +ℤ w i)) ∙ slots_more m key f r h

  pub slot_fits : (n : ℕ) → r < n → n ≤ most_records + 1 → ((i : ℕ) → i < n → nat_abs (f i) ≤ dvp_amount_limit) → SFits w64 (get_or l k (pos 0) +ℤ z)
  slot_fits n hr hn small =
      fits_by (λ i. entry i +ℤ w i)
      (omega (
        arith,
        nat_abs-+ (slot key f r (key r)) (f r),
        small r hr,
        slot_size key f r (key r) dvp_amount_limit (λ i p. small i (omega arith)),
      ))

pub change_limit : (b : List ℕ) → Limited b → (r : ℕ) → r < record_count b → nat_abs (change b r) ≤ dvp_amount_limit
change_limit b s r h =
    omega (arith, nat_abs-pos-sub (short b r) (long b r) quantity_limit (s.shorts r h) (s.longs r h))

-- the entry of a position, as the machine has it
pub entry_read : (f : ℕ → ℤ) (table : List ℤ) (k p : ℕ) → table ≡ tabulate position_count f → k ≡ p → p < position_count → nat_abs (f p) < 2 ^ 63
    → to_z w64 (of_z w64 (get_or table k (pos 0))) ≡ f p
entry_read f table k p e q h small = back ((λ i. get_or (e i) (q i) (pos 0)) ∙ get_or-tabulate position_count f p (pos 0) h) small
