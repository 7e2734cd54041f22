-- How many records stand behind each position, and what they bound: the budget that keeps every amount within an i64.
use Rattle.std.specs.Prelude.{Option, Some, None}
use mathlib.Core.Path.{◌≡◌, refl}
use mathlib.Core.Bool.{true, cond}
use mathlib.Core.List.{List}
use Prim.Native.Nat.{ℕ, ◌*◌, ◌≤◌, ◌<◌}
use native.Mathlib.Nat.{le_refl, le_trans, mul-le-mul}
use native.Mathlib.Omega.{arith}
use borrow.Author.Tests.{eqb-true}
use lib.Dec.{eqb}
use lib.IntN.{ℤ, pos, nat_abs, ◌-ℤ◌}
use Rattle.model.specs.Limits.{position_limit, dvp_amount_limit, most_records}
use Rattle.numbers.specs.Scan.{first_bad, first_at, first_clear}
use Rattle.numbers.specs.Sums.{sum_where-none}
use Rattle.numbers.specs.Budget.{sum_n, sum_n_where, sum_n-ones, sum_n_at, bound_where, parts_le}
use Rattle.numbers.specs.Table.{get_or-tabulate}
use Rattle.model.specs.DayFile.{series_count, multiplier}
use Rattle.model.specs.Batch.{record_count, key, place, long, short, dvp_amount}
use Rattle.model.specs.Netting.{position, net, dvp, position_count}
use Rattle.model.proofs.Accepted.{DayRows, BatchRows}
use Rattle.model.proofs.Nets.{key-place, few_series}
use Rattle.model.proofs.Limits.{few_records, dvp_limit_lem, net_limit_lem}
use Rattle.model.proofs.Whole.{tabled}

-- at most 256 records in all; a net (row 30) and a DVP (row 22) are within the limits of the records of their position
pub record Budget (d : List ℕ) (n v : ℕ → ℤ) : Type 0 where
  pub records : ℕ → ℕ
  pub few : sum_n position_count records ≤ most_records
  pub net_limit : (k x s : ℕ) → s < series_count d → x < 2 → k < 2 → nat_abs (n (position k x s)) * multiplier d s ≤ position_limit * records (position k x s)
  pub dvp_limit : (p : ℕ) → p < position_count → nat_abs (v p) ≤ dvp_amount_limit * records p

module _ (d b : List ℕ) (days : DayRows d) (recs : BatchRows d b) where
  abbrev count : ℕ → ℕ
  count p = sum_n_where (record_count b) (λ r. eqb (key b r) p) (λ r. 1)

  net_bound : (k x s : ℕ) → s < series_count d → x < 2 → nat_abs (net b (position k x s)) * multiplier d s ≤ position_limit * count (position k x s)
  unfolding net
  net_bound k x s hs hx = by (first_bad (λ r. eqb (key b r) (position k x s)) (record_count b)) refl
    where
      by : (f : Option ℕ) → first_bad (λ r. eqb (key b r) (position k x s)) (record_count b) ≡ f
          → nat_abs (net b (position k x s)) * multiplier d s ≤ position_limit * count (position k x s)
      by (Some r) e =
          let z = first_at (λ r. eqb (key b r) (position k x s)) (record_count b) r e in
          let q : key b r ≡ position k x s = eqb-true (key b r) (position k x s) z.1 in
          let p : place b r ≡ s = key-place _ k x s (omega (arith, few_series d days)) hx q in
          let l : nat_abs (net b (position k x s)) * multiplier d s ≤ position_limit = rw (q, p) at (net_limit_lem d b recs r z.0) in
          let one : ◌≡◌ {A = ℕ} (cond (eqb (key b r) (position k x s)) 1 0) 1 = rw z.1 in
          omega (arith, sum_n_at (record_count b) (λ r. cond (eqb (key b r) (position k x s)) 1 0) r z.0)
      by None e =
          let z : net b (position k x s) ≡ pos 0 =
          sum_where-none (record_count b) (λ r. eqb (key b r) (position k x s)) (λ r. pos (short b r) -ℤ pos (long b r))
          (first_clear (λ r. eqb (key b r) (position k x s)) (record_count b) e)
          in
          rw z (omega arith)

  dvp_bound : (p : ℕ) → nat_abs (dvp b p) ≤ dvp_amount_limit * count p
  unfolding dvp
  dvp_bound p =
      bound_where (record_count b) (λ r. eqb (key b r) p) (λ r. eqb (key b r) p) (dvp_amount b) (λ r. 1) dvp_amount_limit (λ r e. e)
      (λ r h e. omega (arith, dvp_limit_lem d b recs.checks.records r h))

  -- an accepted batch is within its budget: no record is counted twice
  pub batch_budget : Budget d (net b) (dvp b)
  batch_budget =
      record {
        records = count;
        few =
            omega (arith, parts_le position_count (record_count b) (λ r. true) (key b) (λ p. p) (λ r. 1) (λ i j e. e), sum_n-ones (record_count b), few_records d b recs.checks);
        net_limit = λ k x s hs hx hk. net_bound k x s hs hx;
        dvp_limit = λ p h. dvp_bound p;
      }

-- nets that are no larger are within it too
pub budget_less : (d : List ℕ) (n u v : ℕ → ℤ) → ((p : ℕ) → nat_abs (u p) ≤ nat_abs (n p)) → Budget d n v → Budget d u v
budget_less d n u v h w =
    record {
      records = w.records;
      few = w.few;
      net_limit = λ k x s hs hx hk. le_trans (mul-le-mul (h (position k x s)) (le_refl (multiplier d s))) (w.net_limit k x s hs hx hk);
      dvp_limit = w.dvp_limit;
    }

-- so are the tables of its positions
pub table_nets : (d : List ℕ) (n v : ℕ → ℤ) → DayRows d → Budget d n v → Budget d (tabled n) v
table_nets d n v days w =
    let f = few_series d days in
    record {
      records = w.records;
      few = w.few;
      net_limit = λ k x s hs hx hk. rw (get_or-tabulate position_count n (position k x s) (pos 0) (omega arith)) (w.net_limit k x s hs hx hk);
      dvp_limit = w.dvp_limit;
    }

pub table_budget : (d : List ℕ) (n v : ℕ → ℤ) → DayRows d → Budget d n v → Budget d (tabled n) (tabled v)
table_budget d n v days w =
    let t = table_nets d n v days w in
    record {
      records = t.records;
      few = t.few;
      net_limit = t.net_limit;
      dvp_limit = λ p h. rw (get_or-tabulate position_count v p (pos 0) h) (t.dvp_limit p h);
    }
