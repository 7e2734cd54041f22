use Rattle.std.specs.Prelude.{◌||◌, Some, None}
use Rattle.std.proofs.Common.{◌≡◌, ◌*◌, ◌<◌, Bool, List, ℕ, ℤ, true, false, ltb, nat_abs, sym, ap, ◌∙◌, arith}
use Rattle.numbers.specs.Tests.{cond_on, cond_off}
use Rattle.model.specs.Limits.{position_limit, dvp_amount_limit, most_records}
use Rattle.model.specs.DayFile.{multiplier}
use Rattle.model.specs.Batch.{record_count, place}
use Rattle.model.specs.Locality.{record_at}
use Rattle.model.proofs.Accepted.{RecordRows}
use Rattle.model.proofs.GoodRecord.{bad}
use Rattle.model.proofs.Limits.{place_limit, long_limit, short_limit, dvp_limit_lem}
use Rattle.model.proofs.Nets.{key_of}
use Rattle.day_steps.specs.Kept.{kept_net_limit}
use Rattle.day_steps.specs.Step.{net_refused, dvp_refused, space_refused, step_refused}
use Rattle.kept_account.specs.declared.position.Moved.{Moved}
use Rattle.kept_account.specs.Accounts.{nets_of, dvps_of, position_with, whole_tables, net_bound}
use Rattle.kept_account.specs.Positions.{one_rows}
use Rattle.kept_account.proofs.account.Account.moved.Goals as goal
use Rattle.kept_account.proofs.account.Account.moved.Goals.{After-record-record, After-is_refused}

pub returns-then-is_bad : goal.returns-then-is_bad
unfolding step_refused
returns-then-is_bad c =
    let d = c.args.day.now.words.now in
    let n = nets_of c.args.self.now in
    let v = dvps_of c.args.self.now in
    let w = record_at c.args.trade.now.words.now 0 in
    let e : bad d w ≡ true = sym c.is_bad.ensures ∙ c.if-is_bad.true in
    cond_on (step_refused d n v w) None (Some (position_with n v w)) (ap (λ t. t || (net_refused d n v w || (dvp_refused d n v w || space_refused d n v w))) e)

-- past rows 22 to 28
module _ (c : After-record-record) (f : c.is_bad.result ≡ false) where
  abbrev d : List ℕ
  d = c.args.day.now.words.now

  abbrev b : List ℕ
  b = c.args.trade.now.words.now

  abbrev w : List ℕ
  w = record_at c.args.trade.now.words.now 0

  good : bad d w ≡ false
  good = sym c.is_bad.ensures ∙ f

  rows : RecordRows d b
  rows = one_rows d b c.requires.one good

  first : 0 < record_count b
  first = omega (arith, c.requires.one)

pub position_with-moved-requires-clause-tables : goal.position_with-moved-requires-clause-tables
position_with-moved-requires-clause-tables c = whole_tables c.args.day.now.words.now c.args.self.now c.requires.whole

pub position_with-moved-requires-clause-limited : goal.position_with-moved-requires-clause-limited
position_with-moved-requires-clause-limited c =
    let z = (goal.at.position_with-moved-requires-clause-limited c).After-record-record in
    let e = c.record-record.ensures in
    let r = rows z c.if-is_bad.false in
    let one = first z c.if-is_bad.false in
    rw (e.0, e.1) (long_limit (d z c.if-is_bad.false) (b z c.if-is_bad.false) r 0 one, short_limit (d z c.if-is_bad.false) (b z c.if-is_bad.false) r 0 one, dvp_limit_lem (d z c.if-is_bad.false) (b z c.if-is_bad.false) r 0 one)

-- its position
position_is : (n v : ℕ → ℤ) {b b' : List ℕ} {r : ℕ} {m : Moved} → m ≡ position_with n v (record_at b' r) → (b' ≡ b) × (r ≡ 0) → m ≡ position_with n v (record_at b 0)
position_is n v e q = e ∙ (λ i. position_with n v (record_at (q.0 i) (q.1 i)))

-- the place of its series
place_is : {b b' : List ℕ} {r p : ℕ} → p ≡ place b' r → (b' ≡ b) × (r ≡ 0) → p ≡ place b 0
place_is e q = e ∙ (λ i. place (q.0 i) (q.1 i))

pub is_refused-requires-clause-place_bound : goal.is_refused-requires-clause-place_bound
is_refused-requires-clause-place_bound c =
    let z = (goal.at.is_refused-requires-clause-place_bound c).After-record-record in
    let f = c.if-is_bad.false in
    rw (place_is c.place.ensures c.record-record.ensures) (place_limit (d z f) (b z f) (rows z f) 0 (first z f))

pub is_refused-requires-clause-net_bound : goal.is_refused-requires-clause-net_bound
is_refused-requires-clause-net_bound c =
    let z = (goal.at.is_refused-requires-clause-net_bound c).After-record-record in
    let f = c.if-is_bad.false in
    let n = nets_of c.args.self.now in
    let v = dvps_of c.args.self.now in
    let small =
    net_bound n v (w z f) (kept_net_limit (d z f) n v c.requires.whole.kept (key_of (w z f)))
    (long_limit (d z f) (b z f) (rows z f) 0 (first z f)) (short_limit (d z f) (b z f) (rows z f) 0 (first z f))
    in
    omega (arith, ap (λ m. nat_abs m.net) (position_is n v c.position_with-moved.ensures c.record-record.ensures), small)

-- rows 30 to 32, and then all
module _ (c : After-is_refused) (f : c.is_bad.result ≡ false) where
  abbrev n : ℕ → ℤ
  n = nets_of c.args.self.now

  abbrev v : ℕ → ℤ
  v = dvps_of c.args.self.now

  abbrev one : List ℕ
  one = record_at c.args.trade.now.words.now 0

  moved_is : c.position_with-moved.result ≡ position_with n v one
  moved_is = position_is n v c.position_with-moved.ensures c.record-record.ensures

  abbrev rest : Bool
  rest = net_refused c.args.day.now.words.now n v one || (dvp_refused c.args.day.now.words.now n v one || space_refused c.args.day.now.words.now n v one)

  rest_is : c.is_refused.result ≡ rest
  rest_is =
      let d = c.args.day.now.words.now in
      let p = place_is c.place.ensures c.record-record.ensures in
      let m = moved_is in
      c.is_refused.ensures
      ∙ (λ i. ltb position_limit (nat_abs ((m i).net) * multiplier d (p i)) || (ltb dvp_amount_limit (nat_abs ((m i).dvp)) || ltb most_records ((m i).held)))

  all_is : step_refused c.args.day.now.words.now n v one ≡ c.is_refused.result
  unfolding step_refused
  all_is = ap (λ t. t || rest) (sym c.is_bad.ensures ∙ f) ∙ sym rest_is

pub returns-then-is_refused : goal.returns-then-is_refused
returns-then-is_refused c =
    let z = (goal.at.returns-then-is_refused c).After-is_refused in
    let f = c.if-is_bad.false in
    cond_on (step_refused c.args.day.now.words.now (n z f) (v z f) (one z f)) None (Some (position_with (n z f) (v z f) (one z f))) (all_is z f ∙ c.if-is_refused.true)

pub returns : goal.returns
returns c =
    let z = (goal.at.returns c).After-is_refused in
    let f = c.if-is_bad.false in
    ap Some (moved_is z f)
    ∙ cond_off (step_refused c.args.day.now.words.now (n z f) (v z f) (one z f)) None (Some (position_with (n z f) (v z f) (one z f))) (all_is z f ∙ c.if-is_refused.false)
