-- What the two positions of a series add, in the form of the accumulator; and the amounts of a class as a loop over its range has them.
use Rattle.std.specs.Prelude.{◌≡◌, refl, Bool, true, false, cond, List, ℕ, ◌+◌, ◌*◌, ◌≤◌, ◌<◌, ℤ, pos, neg_ℤ, nat_abs, ◌+ℤ◌, ◌-ℤ◌, ◌*ℤ◌, length, get_or}
use Rattle.std.proofs.Common.{sym, ◌∙◌, mul-le-mul, le_refl, le_trans, arith}
use Rattle.std.proofs.Math.Path.{ap}
use Rattle.std.proofs.Math.IntN.{+ℤ_assoc, zero-*ℤ, *ℤ-zero}
use Rattle.numbers.specs.Abs.{cond_ind, neg-mul, nat_abs-*, nat_abs-*_le}
use Rattle.numbers.specs.Sums.{sum_where}
use Rattle.numbers.specs.Table.{tabulate, get_or-tabulate, tabulate_ext}
use Rattle.model.specs.Limits.{worth_limit, running_limit, contracts_limit, price_limit, point_count}
use Rattle.model.specs.DayFile.{class_count, series_count, series_type, multiplier, closing, underlying, projected, is_call, is_put, is_future, is_expired}
use Rattle.model.specs.Steps.Positions.{open_net, exercised_net}
use Rattle.model.specs.Steps.Classes.{of_class, worth, signed_by_type}
use Rattle.model.specs.Steps.Spread.{spread_quantity, short_before, long_before, non_spread}
use Rattle.model.specs.Steps.Prices.{open_price}
use Rattle.model.specs.Steps.Points.{underlying_change, open_change, exercised_change, counted_net, point_of, class_point}
use Rattle.model.proofs.Accepted.{DayRows}
use Rattle.model.proofs.Limits.{underlying_limit, closing_limit, projected_limit}
use Rattle.model.proofs.Prices.{open_price_limit}
use Rattle.model.proofs.Bounds.{by_type_abs, counted_bound, point_so_far}
use Rattle.classes.specs.Tables.{entry, Given}
use Rattle.classes.specs.Range.{Range, sum_start, sum_turn, sum_end}
use Rattle.classes.specs.Sizes.{contracts_size}
use Rattle.spread.specs.Sides.{non_spread_of}
use Rattle.accumulator.specs.Added.{change_amount, added_at, added, added_none, added-size}

-- a put's sign may stand at the contracts
by_type_mul : (t : ℕ) (x y : ℤ) → signed_by_type t x *ℤ y ≡ x *ℤ signed_by_type t y
by_type_mul t x y = by (is_call t) (is_put t)
  where
    by : (a b : Bool) → cond a x (cond b (neg_ℤ x) (pos 0)) *ℤ y ≡ x *ℤ cond a y (cond b (neg_ℤ y) (pos 0))
    by true b = refl
    by false true = neg-mul x y
    by false false = zero-*ℤ y ∙ sym (*ℤ-zero x)

-- what an open position moves from, and to at point k: its own prices, or those of the underlying for an expired future
abbrev pub moves_from : List ℕ → ℕ → ℕ → ℕ
moves_from d c s = cond (is_expired (series_type d s)) (underlying d c) (closing d s)

abbrev pub moves_to : List ℕ → ℕ → ℕ → ℤ → ℕ → ℕ
moves_to d c s net k = cond (is_expired (series_type d s)) (projected d c k) (open_price d s net k)

moves_by : (d : List ℕ) (c s : ℕ) (net : ℤ) (k : ℕ) → pos (moves_to d c s net k) -ℤ pos (moves_from d c s) ≡ open_change d c s net k
moves_by d c s net k = by (is_expired (series_type d s))
  where
    by : (b : Bool) → pos (cond b (projected d c k) (open_price d s net k)) -ℤ pos (cond b (underlying d c) (closing d s))
        ≡ cond b (underlying_change d c k) (pos (open_price d s net k) -ℤ pos (closing d s))
    by true = refl
    by false = refl

-- what a position adds: an open one; an exercised or assigned one, from the underlying price on
abbrev pub open_added : List ℕ → ℕ → ℕ → List ℤ → ℤ → List ℤ
open_added d c s at net = added at (net *ℤ pos (multiplier d s)) (moves_from d c s) (tabulate point_count (moves_to d c s net))

abbrev pub exercised_added : List ℕ → ℕ → ℕ → List ℤ → ℤ → List ℤ
exercised_added d c s at net = added at (signed_by_type (series_type d s) (net *ℤ pos (multiplier d s))) (underlying d c) (tabulate point_count (projected d c))

module _ (d : List ℕ) (s : ℕ) (net : ℤ) where
  pub contracts_small : nat_abs net * multiplier d s ≤ contracts_limit → nat_abs (net *ℤ pos (multiplier d s)) ≤ contracts_limit
  contracts_small h = omega (arith, nat_abs-* net (pos (multiplier d s)))

  pub by_type_small : (t : ℕ) → nat_abs net * multiplier d s ≤ contracts_limit → nat_abs (signed_by_type t (net *ℤ pos (multiplier d s))) ≤ contracts_limit
  by_type_small t h = omega (arith, by_type_abs t (net *ℤ pos (multiplier d s)), contracts_small h)

  -- no net adds none
  no_contracts : nat_abs net ≤ 0 → nat_abs (net *ℤ pos (multiplier d s)) ≤ 0
  no_contracts h = omega (arith, nat_abs-*_le net (pos (multiplier d s)) 0 (multiplier d s) h (le_refl (multiplier d s)))

  pub open_none : (c : ℕ) (at : List ℤ) → nat_abs net ≤ 0 → length at ≡ point_count → at ≡ open_added d c s at net
  open_none c at h l = added_none (net *ℤ pos (multiplier d s)) at (moves_from d c s) (tabulate point_count (moves_to d c s net)) (no_contracts h) l

  pub exercised-none : (c : ℕ) (at : List ℤ) → nat_abs net ≤ 0 → length at ≡ point_count → at ≡ exercised_added d c s at net
  exercised-none c at h l =
      added_none (signed_by_type (series_type d s) (net *ℤ pos (multiplier d s))) at (underlying d c) (tabulate point_count (projected d c))
      (omega (arith, by_type_abs (series_type d s) (net *ℤ pos (multiplier d s)), no_contracts h)) l

-- the two positions of a series, one after the other
module _ (d : List ℕ) (n : ℕ → ℤ) (k c s : ℕ) (at : List ℤ) where
  abbrev z : ℤ
  z = counted_net d n k c s *ℤ pos (multiplier d s)

  abbrev x : ℤ
  x = exercised_net n k s *ℤ pos (multiplier d s)

  pub both_added : exercised_added d c s (open_added d c s at (counted_net d n k c s)) (exercised_net n k s)
      ≡ tabulate point_count (λ j. get_or at j (pos 0) +ℤ point_of d n k c j s)
  both_added =
      tabulate_ext point_count _ (λ j. get_or at j (pos 0) +ℤ point_of d n k c j s)
      (λ j h.
      (λ i.
      (get_or-tabulate point_count (added_at at z (moves_from d c s) (tabulate point_count (moves_to d c s (counted_net d n k c s)))) j (pos 0) h
      ∙ ap (λ (p : ℕ). get_or at j (pos 0) +ℤ change_amount z (moves_from d c s) p) (get_or-tabulate point_count (moves_to d c s (counted_net d n k c s)) j 0 h)
      ∙ ap (λ (y : ℤ). get_or at j (pos 0) +ℤ z *ℤ y) (moves_by d c s (counted_net d n k c s) j)) i
      +ℤ (ap (change_amount (signed_by_type (series_type d s) x) (underlying d c)) (get_or-tabulate point_count (projected d c) j 0 h)
      ∙ by_type_mul (series_type d s) x (pos (projected d c j) -ℤ pos (underlying d c))) i)
      ∙ +ℤ_assoc (get_or at j (pos 0)) (worth d s (counted_net d n k c s) (open_change d c s (counted_net d n k c s) j)) (worth d s (exercised_net n k s) (exercised_change d c s j)))

-- ---- the net that counts

pub counted : (d : List ℕ) (n : ℕ → ℤ) (k c s : ℕ)
    → cond (is_future (series_type d s)) (non_spread_of (spread_quantity d n k c) (short_before d n k c s) (long_before d n k c s) (open_net n k s)) (open_net n k s)
    ≡ counted_net d n k c s
unfolding counted_net non_spread
counted d n k c s = refl

module _ (d : List ℕ) (nets : List ℤ) (w : Given d nets) (k c s : ℕ) (hk : k < 2) (hc : c < class_count d) (hs : s < series_count d) where
  pub counted_size : nat_abs (counted_net d (entry nets) k c s) * multiplier d s ≤ contracts_limit
  counted_size =
      le_trans (mul-le-mul (counted_bound d (entry nets) w.dvp w.day.rows w.budget k hk c hc s) (le_refl (multiplier d s)))
      (contracts_size d nets w k 0 s hk (omega arith) hs)

-- ---- the class

-- the ten amounts of the series below m
abbrev pub points_to : List ℕ → (ℕ → ℤ) → ℕ → ℕ → ℕ → List ℤ
points_to d n k c m = tabulate point_count (λ j. sum_where m (of_class d c) (point_of d n k c j))

module _ (d : List ℕ) (n : ℕ → ℤ) (k c a b : ℕ) (r : Range d c a b) where
  pub points_start : tabulate point_count (λ j. pos 0) ≡ points_to d n k c a
  points_start =
      tabulate_ext point_count (λ j. pos 0) _ (λ j h. sum_start d c a b r (of_class d c) (λ s. true) (λ s e. e) (λ s e. e) (point_of d n k c j))

  pub points_turn : (s : ℕ) → a ≤ s → s < b → tabulate point_count (λ j. get_or (points_to d n k c s) j (pos 0) +ℤ point_of d n k c j s) ≡ points_to d n k c (s + 1)
  points_turn s p q =
      tabulate_ext point_count _ _
      (λ j h.
      ap (λ (z : ℤ). z +ℤ point_of d n k c j s) (get_or-tabulate point_count (λ j. sum_where s (of_class d c) (point_of d n k c j)) j (pos 0) h)
      ∙ sym (sum_turn d c a b r (of_class d c) (λ s. true) (λ s e. e) (λ s e. e) (point_of d n k c j) s p q))

  pub points_end : (s : ℕ) → s ≡ b → points_to d n k c s ≡ tabulate point_count (class_point d n k c)
  unfolding class_point
  points_end s e =
      ap (points_to d n k c) e
      ∙ tabulate_ext point_count _ _ (λ j h. sum_end d c a b r (of_class d c) (λ s. true) (λ s e. e) (λ s e. e) (point_of d n k c j))

pub points-size : (d : List ℕ) (nets : List ℤ) → Given d nets → (k c m : ℕ) → k < 2 → c < class_count d → m ≤ series_count d
    → (j : ℕ) → j < point_count → nat_abs (get_or (points_to d (entry nets) k c m) j (pos 0)) ≤ worth_limit
points-size d nets w k c m hk hc hm j h =
    rw (get_or-tabulate point_count (λ j. sum_where m (of_class d c) (point_of d (entry nets) k c j)) j (pos 0) h)
    (point_so_far d (entry nets) w.dvp w.day.rows w.budget k c m hk hc hm j h)

-- ---- prices are within their limit

module _ (d : List ℕ) (r : DayRows d) where
  pub moves-from_limit : (c s : ℕ) → c < class_count d → s < series_count d → moves_from d c s ≤ price_limit
  moves-from_limit c s hc hs =
      cond_ind (is_expired (series_type d s)) (underlying d c) (closing d s) (λ p. p ≤ price_limit) (λ t. underlying_limit d r c hc) (λ t. closing_limit d r s hs)

  pub moves-to_limit : (c s : ℕ) → c < class_count d → s < series_count d → (z : ℤ) (j : ℕ) → j < point_count
      → get_or (tabulate point_count (moves_to d c s z)) j 0 ≤ price_limit
  moves-to_limit c s hc hs z j l =
      rw (get_or-tabulate point_count (moves_to d c s z) j 0 l)
      (cond_ind (is_expired (series_type d s)) (projected d c j) (open_price d s z j) (λ p. p ≤ price_limit)
      (λ t. projected_limit d r c hc j l) (λ t. open_price_limit d s j r hs l z))

  pub projected_prices_limit : (c : ℕ) → c < class_count d → (j : ℕ) → j < point_count → get_or (tabulate point_count (projected d c)) j 0 ≤ price_limit
  projected_prices_limit c h j l =
      rw (get_or-tabulate point_count (projected d c) j 0 l) (projected_limit d r c h j l)

  -- the amounts after the open position
  pub opened-size : (c s : ℕ) (at : List ℤ) (net : ℤ) → c < class_count d → s < series_count d → nat_abs net * multiplier d s ≤ contracts_limit
      → ((j : ℕ) → j < point_count → nat_abs (get_or at j (pos 0)) ≤ worth_limit)
      → (j : ℕ) → j < point_count → nat_abs (get_or (open_added d c s at net) j (pos 0)) ≤ running_limit
  opened-size c s at net hc hs q a =
      added-size at (net *ℤ pos (multiplier d s)) (moves_from d c s) (tabulate point_count (moves_to d c s net)) (contracts_small d s net q) (moves-from_limit c s hc hs) (moves-to_limit c s hc hs net) a
