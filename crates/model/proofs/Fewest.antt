-- The budget of an account as one bound: the fewest records that can stand behind its positions are not too many.
use Rattle.std.specs.Prelude.{ℕ, List, ◌+◌, ◌-◌, ◌*◌, ◌/◌, ◌%◌, ◌≤◌, ◌<◌, ◌≡◌, cond, max, ltb, ℤ, nat_abs}
use Rattle.std.proofs.Common.{arith, subst, lt-ltb, le-ltb}
use Rattle.std.proofs.Math.Decide.{dec_lt}
use Rattle.numbers.specs.Budget.{sum_n, sum_n_le}
use Rattle.model.specs.DayFile.{series_count, multiplier}
use Rattle.model.specs.Limits.{position_limit, dvp_amount_limit, most_records}
use Rattle.model.specs.Netting.{position, position_count, places}
use Rattle.model.proofs.Accepted.{DayRows}
use Rattle.model.proofs.Nets.{few_series}
use Rattle.model.proofs.Records.{Budget}

-- the fewest records that can have this net × multiplier, and this DVP
abbrev pub net_records : ℕ → ℕ
net_records x = (x + (position_limit - 1)) / position_limit

abbrev pub dvp_records : ℕ → ℕ
dvp_records x = (x + (dvp_amount_limit - 1)) / dvp_amount_limit

module _ (d : List ℕ) (n v : ℕ → ℤ) where
  -- the absolute net × multiplier of a position, 0 where its place has no series
  unfoldable pub position_size : ℕ → ℕ
  position_size p = cond (ltb (p % places) (series_count d)) (nat_abs (n p) * multiplier d (p % places)) 0

  unfoldable pub records_at : ℕ → ℕ
  records_at p = max (net_records (position_size p)) (dvp_records (nat_abs (v p)))

  abbrev pub Few : Type 0
  Few = sum_n position_count records_at ≤ most_records

  module _ (r : DayRows d) where
    at_place : (k x s : ℕ) → s < series_count d → position k x s % places ≡ s
    at_place k x s h = omega (arith, few_series d r)

    size_at : (k x s : ℕ) → s < series_count d → position_size (position k x s) ≡ nat_abs (n (position k x s)) * multiplier d s
    unfolding position_size
    size_at k x s h = rw (at_place k x s h, lt-ltb s (series_count d) h)

    pub budget_of : Few → Budget d n v
    unfolding records_at
    budget_of f =
        record {
          records = records_at;
          few = f;
          net_limit = λ k x s hs hx hk. omega (arith, size_at k x s hs);
          dvp_limit = λ p h. omega arith;
        }

    least : (w : Budget d n v) (p : ℕ) → p < position_count → records_at p ≤ w.records p
    unfolding records_at position_size
    least w p h = by (dec_lt (p % places) (series_count d))
      where
        by : Dec (p % places < series_count d) → max (net_records (cond (ltb (p % places) (series_count d)) (nat_abs (n p) * multiplier d (p % places)) 0)) (dvp_records (nat_abs (v p))) ≤ w.records p
        by (yes l) =
            let e : position (p / 512) (p / 256 % 2) (p % places) ≡ p = omega arith in
            let z : nat_abs (n p) * multiplier d (p % places) ≤ position_limit * w.records p =
            subst (λ (q : ℕ). nat_abs (n q) * multiplier d (p % places) ≤ position_limit * w.records q) e (w.net_limit (p / 512) (p / 256 % 2) (p % places) l (omega arith) (omega arith)) in
            rw (lt-ltb (p % places) (series_count d) l) (omega (arith, z, w.dvp_limit p h))
        by (no l) = rw (le-ltb (p % places) (series_count d) (omega arith)) (omega (arith, w.dvp_limit p h))

    pub few_of : Budget d n v → Few
    few_of w = omega (arith, sum_n_le position_count records_at w.records (least w), w.few)
