-- The loop over the trades: its account is that of the tables of nets and DVPs after so many steps. n and v are those of the opening.
use Rattle.std.specs.Prelude.{◌≡◌, Bool, true, false, not, cond, List, ℕ, ◌+◌, ◌%◌, ◌^◌, ◌≤◌, ◌<◌, ltb, eqb, ℤ, nat_abs, ◌+ℤ◌, length}
use Rattle.std.proofs.Math.Path.{sym, ap, subst}
use Rattle.std.proofs.Common.{◌∙◌, arith, add-one, ltb-false}
use Rattle.numbers.specs.Tests.{or_right}
use Rattle.model.specs.Limits.{most_trades}
use Rattle.model.specs.Batch.{record_words}
use Rattle.numbers.specs.Budget.{sum_n, sum_n_where}
use Rattle.model.specs.Rewriting.{rewritten}
use Rattle.model.specs.RewritingChecks.{Rewritable}
use Rattle.model.specs.WorstMoment.{trade_count, row62, trade_at, applies, margin_after}
use Rattle.model.proofs.Bounds.{total_small, account_small}
use Rattle.day_steps.specs.Claims.{table_net, table_dvp}
use Rattle.day_steps.specs.Kept.{Kept, days, kept_budget, kept_net, kept_dvp, kept_rewritable, kept_net_table, kept_dvp_table}
use Rattle.day_steps.specs.Step.{with_net, with_dvp, step_refused}
use Rattle.day_steps.specs.Steps.{no_steps_net, no_steps_dvp, kept_after, margin_is, applies_by, next_net, next_dvp}
use Rattle.kept_account.specs.declared.account.Account.{Account}
use Rattle.kept_account.specs.Accounts.{nets_of, dvps_of, account_of, Whole, stepped, account_whole}

-- an index more that passes a test or fails it
pub count_more : (n : ℕ) (u : ℕ → Bool) → sum_n_where (n + 1) u (λ i. 1) ≡ sum_n_where n u (λ i. 1) + cond (u n) 1 0
unfolding sum_n
count_more n u = ap (λ m. sum_n_where m u (λ i. 1)) (add-one n)

-- past row 62 they are few
pub few_trades : (t : List ℕ) → row62 t ≡ false → trade_count t ≤ most_trades
unfolding row62
few_trades t e = ltb-false most_trades (trade_count t) (or_right (not (eqb (length t % record_words) 0)) (ltb most_trades (trade_count t)) e)

-- the three sizes that the account's margin asks
abbrev pub Totals : Account → Type 0
Totals a = (nat_abs a.ordinary.total < 2 ^ 63) × (nat_abs a.fail.total < 2 ^ 63) × (nat_abs (a.ordinary.total +ℤ a.fail.total) < 2 ^ 63)

module _ (d : List ℕ) (n v : ℕ → ℤ) (k : Kept d n v) (t : List ℕ) where
  abbrev b : List ℕ
  b = rewritten n v

  r : Rewritable d (rewritten n v)
  r = kept_rewritable d n v k

  abbrev nets : ℕ → ℕ → ℤ
  nets = table_net d (rewritten n v) t

  abbrev dvps : ℕ → ℕ → ℤ
  dvps = table_dvp d (rewritten n v) t

  abbrev pub after : ℕ → Account
  after i = account_of d (table_net d (rewritten n v) t i) (table_dvp d (rewritten n v) t i)

  pub opening_after : account_of d n v ≡ after 0
  opening_after = λ i. account_of d (sym (no_steps_net d b t ∙ kept_net d n v k) i) (sym (no_steps_dvp d b t ∙ kept_dvp d n v k) i)

  module _ (i : ℕ) (a : Account) (e : a ≡ after i) where
    kept : Kept d (nets i) (dvps i)
    kept = kept_after d b t r i

    nets_are : nets_of a ≡ nets i
    nets_are = ap nets_of e ∙ kept_net_table d (nets i) (dvps i) kept

    dvps_are : dvps_of a ≡ dvps i
    dvps_are = ap dvps_of e ∙ kept_dvp_table d (nets i) (dvps i) kept

    pub whole_after : Whole d a
    whole_after = subst (Whole d) (sym e) (account_whole d (nets i) (dvps i) kept)

    pub added_after : not (step_refused d (nets_of a) (dvps_of a) (trade_at t i)) ≡ applies d (rewritten n v) t i
    added_after = (λ j. not (step_refused d (nets_are j) (dvps_are j) (trade_at t i))) ∙ sym (applies_by d b t r i)

    pub next_after : stepped d a (trade_at t i) ≡ after (i + 1)
    next_after =
        (λ j. cond (step_refused d (nets_are j) (dvps_are j) (trade_at t i)) (e j) (account_of d (with_net (nets_are j) (trade_at t i)) (with_dvp (dvps_are j) (trade_at t i))))
        ∙ by (step_refused d (nets i) (dvps i) (trade_at t i)) (applies_by d b t r i)
        ∙ (λ j. account_of d (sym (next_net d b t i) j) (sym (next_dvp d b t i) j))
      where
        by : (u : Bool) → applies d b t i ≡ not u
            → cond u (account_of d (nets i) (dvps i)) (account_of d (with_net (nets i) (trade_at t i)) (with_dvp (dvps i) (trade_at t i)))
            ≡ account_of d (cond (applies d b t i) (with_net (nets i) (trade_at t i)) (nets i)) (cond (applies d b t i) (with_dvp (dvps i) (trade_at t i)) (dvps i))
        by true q = rw q
        by false q = rw q

    pub totals_after : Totals a
    totals_after =
        let z = days d (nets i) (dvps i) kept in
        let w = kept_budget d (nets i) (dvps i) kept in
        subst Totals (sym e)
        (total_small d (nets i) (dvps i) z w (nets i) 0 (omega arith), total_small d (nets i) (dvps i) z w (nets i) 1 (omega arith), account_small d (nets i) (dvps i) z w (nets i))

    pub margin_after_is : a.ordinary.total +ℤ a.fail.total ≡ margin_after d (rewritten n v) t i
    margin_after_is = ap (λ (x : Account). x.ordinary.total +ℤ x.fail.total) e ∙ sym (margin_is d b t r i)
