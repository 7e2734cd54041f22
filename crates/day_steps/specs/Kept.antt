-- An account kept as a table of nets n and of DVPs v: it stands for the batch that the two are rewritten to, which is accepted and a rewriting.
use Rattle.std.specs.Prelude.{◌≡◌, Bool, true, false, List, [], ℕ, ◌≤◌, ◌<◌, ℤ, nat_abs, length, Ok}
use Rattle.std.proofs.Math.Path.{refl, subst}
use Rattle.std.proofs.Common.{arith, le_refl, mul-le-mul}
use Rattle.std.proofs.Math.Decide.{dec_lt}
use Rattle.numbers.specs.Table.{tabulate, entry, entry_tabulate}
use Rattle.model.specs.Limits.{position_limit, dvp_amount_limit, most_records}
use Rattle.model.specs.Words.{bits}
use Rattle.model.specs.Steps.Positions.{held}
use Rattle.model.proofs.Limits.{multiplier_least}
use Rattle.corollaries.specs.RewrittenRecords.{unheld_net}
use Rattle.model.specs.DayChecks.{day_check}
use Rattle.model.specs.Netting.{position_count, net, dvp}
use Rattle.model.specs.Calls.{Accepted}
use Rattle.model.specs.Rewriting.{held_records, rewritten, rewriting}
use Rattle.model.specs.RewritingChecks.{Rewritable}
use Rattle.model.proofs.Accepted.{DayRows, day_checked, batch_rows}
use Rattle.model.proofs.Fewest.{Few, few_of}
use Rattle.model.proofs.NettingRows.{dvps_by}
use Rattle.model.proofs.Records.{Budget, batch_budget}
use Rattle.corollaries.specs.Rewritten.{Table, net-rewritten, dvp-rewritten, rewritten_accepted}
use Rattle.corollaries.specs.RewritingRows.{passes, rewritable_summed}
use Rattle.corollaries.specs.Summed.{Summed, batch_table}

pub record Kept (d : List ℕ) (n v : ℕ → ℤ) : Type 0 where
  pub day : day_check d ≡ Ok tt
  -- every position held can have a record within rows 23 to 31
  pub table : Table d n v
  -- row 32
  pub few : length (held_records n v) ≤ most_records

-- of a batch whose records pass every row, so of one that can be rewritten
pub summed_kept : (d b : List ℕ) → Summed d b → Kept d (net b) (dvp b)
summed_kept d b s = record { day = s.day; table = batch_table d b s; few = s.space }

pub opening_kept : (d b : List ℕ) → Rewritable d b → Kept d (net b) (dvp b)
opening_kept d b e = summed_kept d b (rewritable_summed d b e)

module _ (d : List ℕ) (n v : ℕ → ℤ) (k : Kept d n v) where
  pub days : DayRows d
  days = day_checked d k.day

  abbrev account : List ℕ
  account = rewritten n v

  pub kept_net : net (rewritten n v) ≡ n
  kept_net = net-rewritten d n v days k.table

  pub kept_dvp : dvp (rewritten n v) ≡ v
  kept_dvp = dvp-rewritten d n v days k.table

  pub kept_accepted : Accepted d (rewritten n v) []
  kept_accepted = rewritten_accepted d n v days k.table k.few k.day

  pub kept_rewritable : Rewritable d (rewritten n v)
  kept_rewritable = passes d account kept_accepted (dvps_by account (λ p. rw kept_dvp (k.table.dvp_limit p)))

  pub kept_own : rewriting (rewritten n v) ≡ rewritten n v
  kept_own = λ i. rewritten (kept_net i) (kept_dvp i)

  -- the amounts are within the budget of 256 records
  pub kept_budget : Budget d n v
  kept_budget =
      subst (λ (u : ℕ → ℤ). Budget d n u) kept_dvp
      (subst (λ (u : ℕ → ℤ). Budget d u (dvp account)) kept_net (batch_budget d account days (batch_rows d account [] kept_accepted)))

  pub kept_few : Few d n v
  kept_few = few_of d n v days kept_budget

  -- tables of the positions hold all of it
  pub kept_net_table : entry (tabulate position_count n) ≡ n
  kept_net_table = entry_tabulate position_count n k.table.net_outside

  pub kept_dvp_table : entry (tabulate position_count v) ≡ v
  kept_dvp_table = entry_tabulate position_count v k.table.dvp_outside

  -- every position held is of a series, which has a multiplier
  pub kept_net_limit : (p : ℕ) → nat_abs (n p) ≤ position_limit
  kept_net_limit p = by (dec_lt p position_count) (held n v p) refl
    where
      by : Dec (p < position_count) → (h : Bool) → held n v p ≡ h → nat_abs (n p) ≤ position_limit
      by (yes l) true e =
          omega (arith, k.table.net_limit p, mul-le-mul (le_refl (nat_abs (n p))) (multiplier_least d days (bits p 0 8) (k.table.lawful p l e).placed))
      by (yes l) false e = rw (unheld_net n v p e) (omega arith)
      by (no l) h e = rw (k.table.net_outside p (omega arith)) (omega arith)

  pub kept_dvp_limit : (p : ℕ) → nat_abs (v p) ≤ dvp_amount_limit
  kept_dvp_limit = k.table.dvp_limit
