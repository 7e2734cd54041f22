-- The accounts of a day: each is kept as the table of nets and DVP sums over the opening and the steps applied so far.
use Rattle.std.specs.Prelude.{◌≡◌, Bool, true, false, not, cond, List, ℕ, zero, suc, ◌+◌, ℤ, pos, ◌+ℤ◌, is_ok, Ok, Err}
use Rattle.std.proofs.Math.Path.{refl, sym, ap, subst, fun_ext}
use Rattle.std.proofs.Common.{◌∙◌, true≢false, add-one}
use Rattle.std.proofs.Math.IntN.{+ℤ_idr, +ℤ_assoc}
use Rattle.numbers.specs.Sums.{sum_to, sum_where}
use Rattle.model.specs.Outcomes.{Verdict}
use Rattle.model.specs.Netting.{net, dvp}
use Rattle.model.specs.Rewriting.{rewritten, rewriting, added}
use Rattle.model.specs.RewritingChecks.{Rewritable, add_check, Addable}
use Rattle.model.specs.WorstMoment.{trade_at, account_after, applies, account_margin, margin_after}
use Rattle.model.proofs.Nets.{net_of, dvp_of}
use Rattle.day_steps.specs.Claims.{table_net, table_dvp}
use Rattle.day_steps.specs.Kept.{Kept, opening_kept, kept_net, kept_dvp}
use Rattle.day_steps.specs.OneStep.{step_kept, step_account, step_test}
use Rattle.day_steps.specs.Step.{with_net, with_dvp, step_refused}

passed : (v : Verdict) → is_ok v ≡ true → v ≡ Ok tt
passed (Ok _) e = refl
passed (Err k) e = absurd (true≢false (sym e))

by_case : {A : Type 0} {x y z : A} (u : Bool) → (u ≡ true → x ≡ y) → (u ≡ false → x ≡ z) → x ≡ cond u y z
by_case true p q = p refl
by_case false p q = q refl

-- a sum over the steps applied, with one more step
module _ (x : ℤ) (u : ℕ → Bool) (f : ℕ → ℤ) (i : ℕ) where
  more : u i ≡ true → x +ℤ sum_where (suc i) u f ≡ (x +ℤ sum_where i u f) +ℤ f i
  unfolding sum_to
  more e = ap (λ (s : Bool). x +ℤ (sum_where i u f +ℤ cond s (f i) (pos 0))) e ∙ sym (+ℤ_assoc x (sum_where i u f) (f i))

  as_before : u i ≡ false → x +ℤ sum_where (suc i) u f ≡ x +ℤ sum_where i u f
  unfolding sum_to
  as_before e = ap (λ (s : Bool). x +ℤ (sum_where i u f +ℤ cond s (f i) (pos 0))) e ∙ ap (λ (y : ℤ). x +ℤ y) (+ℤ_idr (sum_where i u f))

module _ (d b t : List ℕ) where
  abbrev account : ℕ → List ℕ
  account = account_after d b t

  abbrev nets : ℕ → ℕ → ℤ
  nets = table_net d b t

  abbrev dvps : ℕ → ℕ → ℤ
  dvps = table_dvp d b t

  pub no_steps_net : nets 0 ≡ net b
  unfolding sum_to
  no_steps_net = fun_ext (λ p. +ℤ_idr (net b p))

  pub no_steps_dvp : dvps 0 ≡ dvp b
  unfolding sum_to
  no_steps_dvp = fun_ext (λ p. +ℤ_idr (dvp b p))

  module _ (i : ℕ) where
    nets_applied : applies d b t i ≡ true → nets (suc i) ≡ with_net (nets i) (trade_at t i)
    nets_applied e = fun_ext (λ p. more (net b p) (applies d b t) (λ j. net_of p (trade_at t j)) i e)

    dvps_applied : applies d b t i ≡ true → dvps (suc i) ≡ with_dvp (dvps i) (trade_at t i)
    dvps_applied e = fun_ext (λ p. more (dvp b p) (applies d b t) (λ j. dvp_of p (trade_at t j)) i e)

    nets_left : applies d b t i ≡ false → nets (suc i) ≡ nets i
    nets_left e = fun_ext (λ p. as_before (net b p) (applies d b t) (λ j. net_of p (trade_at t j)) i e)

    dvps_left : applies d b t i ≡ false → dvps (suc i) ≡ dvps i
    dvps_left e = fun_ext (λ p. as_before (dvp b p) (applies d b t) (λ j. dvp_of p (trade_at t j)) i e)

  -- ---- an opening that can be rewritten

  module _ (r : Rewritable d b) where
    record At (i : ℕ) : Type 0 where
      is : account i ≡ rewritten (nets i) (dvps i)
      kept : Kept d (nets i) (dvps i)

    -- where nets and DVPs are others by a path
    moved : {n v n' v' : ℕ → ℤ} → n' ≡ n → v' ≡ v → Kept d n v → Kept d n' v'
    moved {n = n} {v' = v'} p q k = subst (λ (u : ℕ → ℤ). Kept d u v') (sym p) (subst (λ (u : ℕ → ℤ). Kept d n u) (sym q) k)

    at : (i : ℕ) → At i
    unfolding account_after applies
    at zero =
        record {
          is = λ j. rewritten (sym no_steps_net j) (sym no_steps_dvp j);
          kept = moved no_steps_net no_steps_dvp (opening_kept d b r);
        }
    at (suc i) = by (at i) (applies d b t i) refl
      where
        by : At i → (u : Bool) → applies d b t i ≡ u → At (suc i)
        by z true e =
            let a : Addable d (rewritten (nets i) (dvps i)) (trade_at t i) = passed _ (sym (ap (λ (l : List ℕ). is_ok (add_check d l (trade_at t i))) z.is) ∙ e) in
            record {
              is =
                  ap (λ (s : Bool). cond s (rewriting (added (account i) (trade_at t i))) (account i)) e
                  ∙ ap (λ (l : List ℕ). rewriting (added l (trade_at t i))) z.is
                  ∙ step_account d (nets i) (dvps i) z.kept (trade_at t i) a
                  ∙ (λ j. rewritten (sym (nets_applied i e) j) (sym (dvps_applied i e) j));
              kept = moved (nets_applied i e) (dvps_applied i e) (step_kept d (nets i) (dvps i) z.kept (trade_at t i) a);
            }
        by z false e =
            record {
              is =
                  ap (λ (s : Bool). cond s (rewriting (added (account i) (trade_at t i))) (account i)) e
                  ∙ z.is
                  ∙ (λ j. rewritten (sym (nets_left i e) j) (sym (dvps_left i e) j));
              kept = moved (nets_left i e) (dvps_left i e) z.kept;
            }

    pub account_is : (i : ℕ) → account_after d b t i ≡ rewritten (table_net d b t i) (table_dvp d b t i)
    account_is i = (at i).is

    pub kept_after : (i : ℕ) → Kept d (table_net d b t i) (table_dvp d b t i)
    kept_after i = (at i).kept

    pub nets_are : (i : ℕ) → net (account_after d b t i) ≡ table_net d b t i
    nets_are i = ap net (account_is i) ∙ kept_net d (nets i) (dvps i) (kept_after i)

    pub dvps_are : (i : ℕ) → dvp (account_after d b t i) ≡ table_dvp d b t i
    dvps_are i = ap dvp (account_is i) ∙ kept_dvp d (nets i) (dvps i) (kept_after i)

    pub margin_is : (i : ℕ) → margin_after d b t i ≡ account_margin d (table_net d b t i) (table_dvp d b t i)
    margin_is i = λ j. account_margin d (nets_are i j) (dvps_are i j)

    -- ---- a step by its own test

    pub applies_by : (i : ℕ) → applies d b t i ≡ not (step_refused d (table_net d b t i) (table_dvp d b t i) (trade_at t i))
    unfolding applies
    applies_by i =
        ap (λ (l : List ℕ). is_ok (add_check d l (trade_at t i))) (account_is i)
        ∙ step_test d (nets i) (dvps i) (kept_after i) (trade_at t i) refl

  -- as a loop meets it, at its i + 1
  pub next_net : (i : ℕ) → table_net d b t (i + 1) ≡ cond (applies d b t i) (with_net (table_net d b t i) (trade_at t i)) (table_net d b t i)
  next_net i = ap nets (add-one i) ∙ by_case (applies d b t i) (nets_applied i) (nets_left i)

  pub next_dvp : (i : ℕ) → table_dvp d b t (i + 1) ≡ cond (applies d b t i) (with_dvp (table_dvp d b t i) (trade_at t i)) (table_dvp d b t i)
  next_dvp i = ap dvps (add-one i) ∙ by_case (applies d b t i) (dvps_applied i) (dvps_left i)
