-- The sum of step 4 as a loop over a class's range has it, and the sizes of in-the-money amounts and of a series's part.
use Rattle.std.specs.Prelude.{◌≡◌, Bool, cond, List, ℕ, ◌+◌, ◌≤◌, ◌<◌, ◌^◌, ℤ, pos, nat_abs, ◌+ℤ◌, ◌-ℤ◌}
use Rattle.std.proofs.Common.{sym, ◌∙◌, arith}
use Rattle.std.proofs.Math.Path.{ap}
use Rattle.numbers.specs.Abs.{nat_abs-+}
use Rattle.numbers.specs.Sums.{sum_where}
use Rattle.model.specs.Limits.{worth_limit, price_limit, most_records}
use Rattle.model.specs.DayFile.{class_count, series_count, series_type, closing, underlying, strike, is_option}
use Rattle.model.specs.Netting.{position}
use Rattle.model.specs.Steps.Positions.{open_net, exercised_net}
use Rattle.model.specs.Steps.Classes.{option_of, worth}
use Rattle.model.specs.Steps.Premium.{in_the_money, premium_of, premium}
use Rattle.model.proofs.Accepted.{DayRows}
use Rattle.model.proofs.Limits.{closing_limit}
use Rattle.model.proofs.Bounds.{worth_bound, strike_size, by_type_abs}
use Rattle.classes.specs.Tables.{entry, Given}
use Rattle.classes.specs.Range.{Range, start, turn, finish}
use Rattle.classes.specs.Sizes.{contracts_size}

abbrev pub premium_to : List ℕ → (ℕ → ℤ) → ℕ → ℕ → ℕ → ℤ
premium_to d n k c m = sum_where m (option_of d c) (premium_of d n k c)

module _ (d : List ℕ) (n : ℕ → ℤ) (k c a b : ℕ) (r : Range d c a b) where
  abbrev option : ℕ → Bool
  option s = is_option (series_type d s)

  pub premium_start : pos 0 ≡ premium_to d n k c a
  premium_start = start d c a b r option (premium_of d n k c)

  pub premium_turn : (s : ℕ) → a ≤ s → s < b → premium_to d n k c s +ℤ cond (option s) (premium_of d n k c s) (pos 0) ≡ premium_to d n k c (s + 1)
  premium_turn s p q = sym (turn d c a b r option (premium_of d n k c) s p q)

  pub premium_end : (s : ℕ) → s ≡ b → premium_to d n k c s ≡ premium d n k c
  unfolding premium
  premium_end s e = ap (premium_to d n k c) e ∙ finish d c a b r option (premium_of d n k c)

-- ---- sizes

pub money_size : (d : List ℕ) → DayRows d → (c s : ℕ) → c < class_count d → s < series_count d
    → (nat_abs (pos (underlying d c) -ℤ pos (strike d s)) ≤ price_limit) × (nat_abs (in_the_money d c s) ≤ price_limit)
money_size d r c s hc hs =
    let h = strike_size d r c s hc hs in
    (h, omega (arith, h, by_type_abs (series_type d s) (pos (underlying d c) -ℤ pos (strike d s))))

module _ (d : List ℕ) (nets : List ℤ) (w : Given d nets) (k s : ℕ) (hk : k < 2) (hs : s < series_count d) where
  -- a position at a price
  worth-size : (x : ℕ) (p : ℤ) → x < 2 → nat_abs p ≤ price_limit → nat_abs (worth d s (entry nets (position k x s)) p) ≤ worth_limit
  worth-size x p hx h = worth_bound d s (entry nets (position k x s)) p most_records (contracts_size d nets w k x s hk hx hs) h

  pub premium_fits : (c : ℕ) → c < class_count d → nat_abs (premium_of d (entry nets) k c s) < 2 ^ 63
  premium_fits c hc =
      omega (
        arith,
        nat_abs-+ (worth d s (open_net (entry nets) k s) (pos (closing d s))) (worth d s (exercised_net (entry nets) k s) (in_the_money d c s)),
        worth-size 0 (pos (closing d s)) (omega arith) (closing_limit d w.day.rows s hs),
        worth-size 1 (in_the_money d c s) (omega arith) (money_size d w.day.rows c s hc hs).1,
      )
