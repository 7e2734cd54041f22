use Rattle.std.proofs.Common.{◌≡◌, ℕ, ℤ, List, ◌+◌, ◌-◌, ◌≤◌, pos, get_or, length, ◌+ℤ◌, sym, ap, ◌∙◌, arith}
use Rattle.numbers.specs.Abs.{nat_abs-pos-sub, back}
use Rattle.numbers.specs.Machine.{i64_of, add_is}
use Rattle.model.specs.Limits.{quantity_limit}
use Rattle.model.specs.Batch.{long, short}
use Rattle.model.specs.Locality.{record_at}
use Rattle.model.specs.Rewriting.{held_records}
use Rattle.model.proofs.HeldRecords.{held_most}
use Rattle.model.proofs.Nets.{key_of}
use Rattle.day_steps.specs.HeldCount.{count_moves}
use Rattle.day_steps.specs.Step.{with_net, with_dvp, own_net, own_dvp}
use Rattle.kept_account.specs.Accounts.{nets_of, dvps_of}
use Rattle.kept_account.specs.Positions.{held_number, held_one_most}
use Rattle.kept_account.proofs.account.Account.position_with.Goals as goal
use Rattle.kept_account.proofs.account.Account.position_with.Goals.{After-one_if_held}

module _ (c : After-one_if_held) where
  abbrev n : ℕ → ℤ
  n = nets_of c.args.self.now

  abbrev v : ℕ → ℤ
  v = dvps_of c.args.self.now

  abbrev w : List ℕ
  w = record_at c.args.trade.now.batch.now c.args.trade.now.index

  net_before : get_or c.args.self.now.nets c.key-key.result (pos 0) ≡ n (key_of w)
  net_before = ap n c.key-key.ensures

  dvp_before : get_or c.args.self.now.dvps c.key-key.result (pos 0) ≡ v (key_of w)
  dvp_before = ap v c.key-key.ensures

  net_is : i64_of (i64_of (get_or c.args.self.now.nets c.key-key.result (pos 0)) +ℤ i64_of c.change.result) ≡ with_net n w (key_of w)
  net_is =
      let b = c.args.trade.now.batch.now in
      let r = c.args.trade.now.index in
      add_is net_before c.change.ensures
      (omega (arith, c.requires.tables.net_limit (key_of w), nat_abs-pos-sub (short b r) (long b r) quantity_limit c.requires.limited.1 c.requires.limited.0))
      ∙ sym (own_net n v w)

  dvp_is : i64_of (i64_of (get_or c.args.self.now.dvps c.key-key.result (pos 0)) +ℤ i64_of c.dvp_amount.result) ≡ with_dvp v w (key_of w)
  dvp_is =
      add_is dvp_before c.dvp_amount.ensures (omega (arith, c.requires.tables.dvp_limit (key_of w), c.requires.limited.2))
      ∙ sym (own_dvp n v w)

  -- the counts of the position before and after
  before_is : c.one_if_held-before.result ≡ held_number (n (key_of w)) (v (key_of w))
  before_is =
      c.one_if_held-before.ensures
      ∙ (λ i. held_number (back net_before (omega (arith, c.requires.tables.net_limit (key_of w))) i) (back dvp_before (omega (arith, c.requires.tables.dvp_limit (key_of w))) i))

  after_is : c.one_if_held.result ≡ held_number (with_net n w (key_of w)) (with_dvp v w (key_of w))
  after_is = c.one_if_held.ensures ∙ (λ i. held_number (net_is i) (dvp_is i))

  one_most : held_number (with_net n w (key_of w)) (with_dvp v w (key_of w)) ≤ 1
  one_most = held_one_most (with_net n w (key_of w)) (with_dvp v w (key_of w))

  abbrev after : ℕ
  after = length (held_records (with_net n w) (with_dvp v w))

  count_is : after + c.one_if_held-before.result ≡ c.args.self.now.held + c.one_if_held.result
  count_is = omega (arith, count_moves n v w, before_is, after_is, c.requires.tables.held_value)

pub overflow_add-result : goal.overflow_add-result
overflow_add-result c =
    let w = (goal.at.overflow_add-result c).After-one_if_held in
    record {
      fits =
          omega (
            arith,
            c.requires.tables.held_value,
            held_most (nets_of c.args.self.now) (dvps_of c.args.self.now),
            after_is w,
            one_most w,
          );
    }

pub overflow_sub-result : goal.overflow_sub-result
overflow_sub-result c = omega (arith, count_is (goal.at.overflow_sub-result c).After-one_if_held)

pub returns : goal.returns
returns c =
    let w = (goal.at.returns c).After-one_if_held in
    let held : c.args.self.now.held + c.one_if_held.result - c.one_if_held-before.result ≡ after w = omega (arith, count_is w) in
    λ i. record { key = c.key-key.ensures i; net = net_is w i; dvp = dvp_is w i; held = held i }
