-- The claims of the worst moment of a day, proved.
use Rattle.std.specs.Prelude.{◌≡◌, Bool, true, false, not, cond, List, [], ◌∷◌, ℕ, zero, suc, ◌+◌, ◌≤◌, ℤ, ◌+ℤ◌, ◌<ℤ◌, length, drop, is_ok}
use Rattle.std.proofs.Math.Path.{refl, sym, ap, subst, fun_ext}
use Rattle.std.proofs.Common.{◌∙◌, arith}
use Rattle.numbers.specs.Budget.{sum_n, sum_n_where}
use Rattle.numbers.specs.Highest.{highest, earliest, highest_above, earliest_at, earliest_below, earliest_first, earliest_rises}
use Rattle.numbers.specs.Line.{line}
use Rattle.model.specs.declared.Check.TheVariants.{Netting}
use Rattle.model.specs.declared.NettingFault.TheVariants.{BadTrades}
use Rattle.model.specs.Outcomes.{Verdict}
use Rattle.model.specs.Rows.{tried, plain_row}
use Rattle.model.specs.Netting.{net, dvp}
use Rattle.model.specs.Steps.Lines.{total}
use Rattle.model.specs.Calls.{verdict, Accepted, net_after, needed, memory_after}
use Rattle.model.specs.Locality.{Reordered}
use Rattle.model.specs.Reading.{total_in, amount_in}
use Rattle.model.specs.Rewriting.{rewritten, rewriting, added}
use Rattle.model.specs.RewritingChecks.{dvp_check, Rewritable, add_check}
use Rattle.model.specs.WorstMoment.{trade_count, trade_at, row62, worst_check, account_after, applies, account_margin, margin_after, moment, moment_answer, worst_answer}
use Rattle.model.proofs.Cover.{covered_no_deposits}
use Rattle.model.proofs.Nets.{net_order, dvp_order}
use Rattle.model.proofs.Outcome.{memory_is}
use Rattle.model.proofs.Read.{total_read}
use Rattle.model.proofs.SmallReport.{accepted_small}
use Rattle.model.proofs.Verdicts.{tried_behind}
use Rattle.corollaries.specs.Rewritings.{rewritings}
use Rattle.day_steps.specs.Claims.{WorstMoments}
use Rattle.day_steps.specs.Kept.{kept_accepted, kept_rewritable, kept_own}
use Rattle.day_steps.specs.Steps.{account_is, kept_after, nets_are, dvps_are}

-- every index passes a test or fails it
pub all_counted : (n : ℕ) (u : ℕ → Bool) → sum_n_where n u (λ i. 1) + sum_n_where n (λ i. not (u i)) (λ i. 1) ≡ n
unfolding sum_n
all_counted zero u = refl
all_counted (suc n) u = omega (arith, all_counted n u, by (u n))
  where
    by : (x : Bool) → cond x 1 0 + cond (not x) 1 0 ≡ 1
    by true = refl
    by false = refl

module _ (d b t : List ℕ) where
  -- a step left out leaves the account as it was, so that it does not rise above what was before it
  applied_step : (i : ℕ) → earliest (margin_after d b t) (trade_count t) ≡ suc i → applies d b t i ≡ true
  unfolding account_after applies
  applied_step i e = by (applies d b t i) refl
    where
      by : (x : Bool) → applies d b t i ≡ x → applies d b t i ≡ true
      by true q = q
      by false q =
          let f : ℕ → ℤ = margin_after d b t in
          let same : account_after d b t (suc i) ≡ account_after d b t i =
          ap (λ (x : Bool). cond x (rewriting (added (account_after d b t i) (trade_at t i))) (account_after d b t i)) q
          in
          let rises : highest f i <ℤ f i = subst (λ (z : ℤ). highest f i <ℤ z) (ap (λ (a : List ℕ). account_margin d (net a) (dvp a)) same) (earliest_rises f (trade_count t) i e) in
          absurd (omega (line, rises, highest_above f i i (omega arith)))

  rows : worst_check d b t ≡ tried (verdict d b [] ∷ dvp_check b ∷ plain_row (Netting BadTrades) (row62 t) ∷ [])
  unfolding worst_check
  rows =
      ap (λ (v : Verdict). tried (v ∷ plain_row (Netting BadTrades) (row62 t) ∷ [])) (rewritings.refusals d b)
      ∙ sym (tried_behind (verdict d b [] ∷ dvp_check b ∷ []) (plain_row (Netting BadTrades) (row62 t) ∷ []))

-- ---- two openings of one rewriting

module _ (d b c t : List ℕ) (e : rewriting b ≡ rewriting c) where
  same_account : (i : ℕ) → account_after d b t i ≡ account_after d c t i
  unfolding account_after
  same_account zero = e
  same_account (suc i) = ap (λ (a : List ℕ). cond (is_ok (add_check d a (trade_at t i))) (rewriting (added a (trade_at t i))) a) (same_account i)

  same_moment : moment d b t ≡ moment d c t
  unfolding moment applies
  same_moment =
      let a : account_after d b t ≡ account_after d c t = fun_ext same_account in
      λ j. record {
        margin = highest (λ n. account_margin d (net (a j n)) (dvp (a j n))) (trade_count t);
        step = earliest (λ n. account_margin d (net (a j n)) (dvp (a j n))) (trade_count t);
        applied = sum_n_where (trade_count t) (λ i. is_ok (add_check d (a j i) (trade_at t i))) (λ i. 1);
        left_out = sum_n_where (trade_count t) (λ i. not (is_ok (add_check d (a j i) (trade_at t i)))) (λ i. 1);
      }

  same_answer : Rewritable d b → Rewritable d c → worst_answer d b t ≡ worst_answer d c t
  unfolding worst_answer worst_check
  same_answer p q = λ j. moment_answer (tried ((p ∙ sym q) j ∷ plain_row (Netting BadTrades) (row62 t) ∷ [])) (same_moment j)

pub kept_moment : (d b t : List ℕ) → Rewritable d b → moment d (rewriting b) t ≡ moment d b t
kept_moment d b t r = same_moment d (rewriting b) b t (rewritings.again d b r)

pub worst_moments : WorstMoments
unfolding moment
worst_moments =
    record {
      refusals = rows;
      table = λ d b t i r. account_is d b t r i;
      nets = λ d b t i p r j. nets_are d b t r i j p;
      dvps = λ d b t i p r j. dvps_are d b t r i j p;
      accepted = λ d b t i r. rw (account_is d b t r i) (kept_accepted d _ _ (kept_after d b t r i));
      rewritable = λ d b t i r. rw (account_is d b t r i) (kept_rewritable d _ _ (kept_after d b t r i));
      own = λ d b t i r. rw (account_is d b t r i) (kept_own d _ _ (kept_after d b t r i));
      reported = reported;
      highest = λ d b t i h. highest_above (margin_after d b t) (trade_count t) i h;
      among = λ d b t. earliest_below (margin_after d b t) (trade_count t);
      has_it = λ d b t. earliest_at (margin_after d b t) (trade_count t);
      earlier = λ d b t i h. earliest_first (margin_after d b t) (trade_count t) i h;
      applied_step = applied_step;
      counted = λ d b t. all_counted (trade_count t) (applies d b t);
      kept = λ d b t r. same_answer d (rewriting b) b t (rewritings.again d b r) (rewritings.again_rewritable d b r) r;
      orders = λ d b₁ b₂ t r o. same_answer d b₁ b₂ t (same_rewriting b₁ b₂ o) r (rewritings.orders d b₁ b₂ r o);
    }
  where
    reported : (d b m : List ℕ) → Accepted d b [] → needed d b ≤ length m → amount_in (total_in (memory_after d b [] m) 2) 0 ≡ account_margin d (net b) (dvp b)
    reported d b m p h =
        rw (memory_is d b [] m p h)
        (total_read d (net b) (net_after d b []) (dvp b) (drop (needed d b) m) 2 (omega arith) ((accepted_small d b [] p).totals 2 (omega arith))
        ∙ (λ j. total d (net b) (covered_no_deposits d (net b) j) (dvp b) 0 +ℤ total d (net b) (covered_no_deposits d (net b) j) (dvp b) 1))

    same_rewriting : (b₁ b₂ : List ℕ) → Reordered b₁ b₂ → rewriting b₁ ≡ rewriting b₂
    same_rewriting b₁ b₂ o = λ j. rewritten (net_order b₁ b₂ o.same j) (dvp_order b₁ b₂ o.same j)
