use Rattle.std.proofs.Common.{◌≡◌, not, Bool, to_z, w64, ◌-◌, List, ℕ, ℤ, ◌+◌, ◌<◌, cond, sym, ap, ◌∙◌, arith, refl}
use Rattle.numbers.specs.Abs.{told}
use Rattle.numbers.specs.Budget.{sum_n, sum_n_where}
use Rattle.numbers.specs.Machine.{i64_of}
use Rattle.numbers.specs.Tests.{cond_on, cond_off}
use Rattle.std.specs.Int.Signed.{lt_z}
use Rattle.numbers.specs.Highest.{highest, earliest, highest_more, earliest_more}
use Rattle.model.specs.Limits.{most_trades}
use Rattle.model.specs.Locality.{record_at}
use Rattle.model.specs.Rewriting.{rewritten}
use Rattle.model.specs.WorstMoment.{moment, trade_count, trade_at, applies, left_out, margin_after}
use Rattle.day_steps.specs.Step.{step_refused}
use Rattle.day_steps.specs.WorstMoments.{all_counted}
use Rattle.kept_account.specs.Accounts.{nets_of, dvps_of, stepped}
use Rattle.worst_moment.specs.Loop.{after, opening_after, whole_after, added_after, next_after, totals_after, margin_after_is, count_more, few_trades}
use Rattle.worst_moment.proofs.worst_from.Goals as goal
use Rattle.worst_moment.proofs.worst_from.Goals.{After-one_if-applied, then-margin-after, else-margin-after}

pub margin-margin-requires : goal.margin-margin-requires
margin-margin-requires c =
    let k = c.requires.whole.kept in
    let n = nets_of c.args.account in
    let v = dvps_of c.args.account in
    totals_after c.args.day.now.words.now n v k c.args.trades.now 0 c.args.account (c.requires.whole.is ∙ opening_after c.args.day.now.words.now n v k c.args.trades.now)

pub loop-i-init : goal.loop-i-init
unfolding highest earliest sum_n
loop-i-init c =
    let k = c.requires.whole.kept in
    let d = c.args.day.now.words.now in
    let n = nets_of c.args.account in
    let v = dvps_of c.args.account in
    let e = c.requires.whole.is ∙ opening_after d n v k c.args.trades.now in
    record { account = e; margin = told c.margin-margin.type_inv (c.margin-margin.ensures ∙ margin_after_is d n v k c.args.trades.now 0 c.args.account e); step = refl; applied = refl }

pub add-requires-clause-whole : goal.add-requires-clause-whole
add-requires-clause-whole c =
    whole_after c.args.day.now.words.now (nets_of c.args.account) (dvps_of c.args.account) c.requires.whole.kept c.args.trades.now c.loop-i.i c.loop-i.account c.loop-i.invariant.account

-- a trade added
module _ (c : After-one_if-applied) where
  abbrev d : List ℕ
  d = c.args.day.now.words.now

  abbrev n : ℕ → ℤ
  n = nets_of c.args.account

  abbrev v : ℕ → ℤ
  v = dvps_of c.args.account

  abbrev t : List ℕ
  t = c.args.trades.now

  trade_is : record_at c.batch_of-words.result 0 ≡ trade_at t c.loop-i.i
  trade_is = ap (λ l. record_at l 0) c.batch_of-words.ensures

  next : c.add.new.self ≡ after d n v c.requires.whole.kept t (c.loop-i.i + 1)
  next =
      c.add.ensures.account
      ∙ (λ j. stepped d c.loop-i.account (trade_is j))
      ∙ next_after d n v c.requires.whole.kept t c.loop-i.i c.loop-i.account c.loop-i.invariant.account

  added : c.add.result ≡ applies d (rewritten n v) t c.loop-i.i
  added =
      c.add.ensures.added
      ∙ (λ j. not (step_refused d (nets_of c.loop-i.account) (dvps_of c.loop-i.account) (trade_is j)))
      ∙ added_after d n v c.requires.whole.kept t c.loop-i.i c.loop-i.account c.loop-i.invariant.account

  one : c.one_if-applied.result ≡ cond (applies d (rewritten n v) t c.loop-i.i) 1 0
  one = c.one_if-applied.ensures ∙ ap (λ (s : Bool). cond s 1 0) added

  count : c.loop-i.applied + c.one_if-applied.result ≡ sum_n_where (c.loop-i.i + 1) (applies d (rewritten n v) t) (λ j. 1)
  count = (λ j. c.loop-i.invariant.applied j + one j) ∙ sym (count_more c.loop-i.i (applies d (rewritten n v) t))

  -- the trades are few
  few : c.loop-i.i < most_trades
  few = omega (arith, c.loop-i-test.true, c.trade_count-count.ensures, few_trades t c.requires.trades)

pub overflow_add-applied : goal.overflow_add-applied
overflow_add-applied c =
    let z = (goal.at.overflow_add-applied c).After-one_if-applied in
    record { fits = omega (arith, few z, count z, all_counted (c.loop-i.i + 1) (applies (d z) (rewritten (n z) (v z)) (t z))) }

pub margin-after-requires : goal.margin-after-requires
margin-after-requires c =
    let z = (goal.at.margin-after-requires c).After-one_if-applied in
    totals_after (d z) (n z) (v z) c.requires.whole.kept (t z) (c.loop-i.i + 1) c.add.new.self (next z)

pub overflow_cast-step : goal.overflow_cast-step
overflow_cast-step c = record { fits = omega (arith, few (goal.at.overflow_cast-step c).After-one_if-applied) }

pub overflow_add-step : goal.overflow_add-step
overflow_add-step c = record { fits = omega (arith, few (goal.at.overflow_add-step c).After-one_if-applied) }

pub loop-i-preserved : goal.loop-i-preserved
loop-i-preserved c =
    let z = (goal.at.loop-i-preserved c).After-one_if-applied in
    let i = c.loop-i.i in
    let f = margin_after (d z) (rewritten (n z) (v z)) (t z) in
    let reached : i64_of c.margin-after.result ≡ f (i + 1) =
    told c.margin-after.type_inv (c.margin-after.ensures ∙ margin_after_is (d z) (n z) (v z) c.requires.whole.kept (t z) (i + 1) c.add.new.self (next z))
    in
    let higher : lt_z (highest f i) (f (i + 1)) ≡ lt_z (to_z w64 c.loop-i.margin-bits) (i64_of c.margin-after.result) = λ j. lt_z (sym c.loop-i.invariant.margin j) (sym reached j) in
    record {
      account = next z;
      margin = elim c.if-margin-after.branch [
        | then-margin-after w ↦ w.margin-is ∙ reached ∙ cond_on (lt_z (highest f i) (f (i + 1))) (f (i + 1)) (highest f i) (higher ∙ w.if-margin-after.true) ∙ sym (highest_more f i)
        | else-margin-after w ↦ w.margin-is ∙ c.loop-i.invariant.margin ∙ cond_off (lt_z (highest f i) (f (i + 1))) (f (i + 1)) (highest f i) (higher ∙ w.if-margin-after.false) ∙ sym (highest_more f i)
      ];
      step = elim c.if-margin-after.branch [
        | then-margin-after w ↦ w.step-is ∙ cond_on (lt_z (highest f i) (f (i + 1))) (i + 1) (earliest f i) (higher ∙ w.if-margin-after.true) ∙ sym (earliest_more f i)
        | else-margin-after w ↦ w.step-is ∙ c.loop-i.invariant.step ∙ cond_off (lt_z (highest f i) (f (i + 1))) (i + 1) (earliest f i) (higher ∙ w.if-margin-after.false) ∙ sym (earliest_more f i)
      ];
      applied = count z;
    }

pub overflow_cast-result : goal.overflow_cast-result
overflow_cast-result c = record { fits = omega (arith, c.trade_count-count.ensures, few_trades c.args.trades.now c.requires.trades) }

pub overflow_sub-result : goal.overflow_sub-result
overflow_sub-result c =
    omega (arith, c.loop-i.invariant.applied, c.loop-i-test.false, all_counted c.loop-i.i (applies c.args.day.now.words.now (rewritten (nets_of c.args.account) (dvps_of c.args.account)) c.args.trades.now))

pub returns : goal.returns
unfolding moment
returns c =
    let d = c.args.day.now.words.now in
    let b = rewritten (nets_of c.args.account) (dvps_of c.args.account) in
    let t = c.args.trades.now in
    let e : c.loop-i.i ≡ trade_count t = omega (arith, c.loop-i-test.false, c.trade_count-count.ensures) in
    let applied = c.loop-i.invariant.applied ∙ ap (λ m. sum_n_where m (applies d b t) (λ j. 1)) e in
    let others : c.trade_count-count.result - c.loop-i.applied ≡ sum_n_where (trade_count t) (left_out d b t) (λ j. 1) =
    omega (arith, applied, c.trade_count-count.ensures, all_counted (trade_count t) (applies d b t))
    in
    λ i.
    record {
      margin = (c.loop-i.invariant.margin ∙ ap (highest (margin_after d b t)) e) i;
      step = (c.loop-i.invariant.step ∙ ap (earliest (margin_after d b t)) e) i;
      applied = applied i;
      left_out = others i;
    }
