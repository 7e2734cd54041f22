use Rattle.std.specs.Prelude.{Ok, Err}
use Rattle.std.proofs.Common.{rules, ◌≡◌, length, ℕ, List, pos, sym, ◌∙◌, ap}
use Rattle.classes.specs.Checked.{checked_rows, checked_passed}
use Rattle.checked_account.proofs.report_checked.Goals as goal
use Rattle.checked_account.specs.Calls.{answer-deposits, answer-nets, tables_budget, tables_length, tables_needed, tables_report}
use Rattle.model.proofs.Accepted.{BatchRows, batch_checked, netting_rows}
use Rattle.model.proofs.Fewest.{few_of}
use Rattle.model.proofs.Outcome.{memory_of}
use Rattle.model.specs.Calls.{answer_of, room_answer, written}
use Rattle.model.specs.DepositChecks.{deposit_check}
use Rattle.model.specs.Netting.{netting_check, position_count}
use Rattle.net_check.specs.Sizes.{placed}
use Rattle.netting.specs.Limits.{limited}
use Rattle.numbers.specs.Table.{entry, replicate_tabulate}

pub invariant_of-limited : goal.invariant_of-limited
invariant_of-limited c =
    let d = c.args.day.now.words.now in
    record { limited = limited d c.args.batch.now (batch_checked d c.args.batch.now c.requires) }

pub net_positions-requires : goal.net_positions-requires
net_positions-requires c = record { nets_value = replicate_tabulate position_count (pos 0); dvps_value = replicate_tabulate position_count (pos 0) }

pub check_nets-requires : goal.check_nets-requires
check_nets-requires c =
    let d = c.args.day.now.words.now in
    let b = c.args.batch.now in
    record { placed = placed d b (checked_rows d c.args.day.now.checked) (batch_checked d b c.requires).records; nets_value = c.net_positions.ensures.nets_after }

pub returns-in_err-check_nets : goal.returns-in_err-check_nets
returns-in_err-check_nets c =
    let d = c.args.day.now.words.now in
    let b = c.args.batch.now in
    let x = c.args.deposits.now in
    let m = c.args.memory.now in
    let refused : netting_check d b ≡ Err c.in_err-check_nets.field-0.0 = sym c.check_nets.ensures ∙ c.in_err-check_nets.was in
    let k = c.in_err-check_nets.field-0.0 in
    let e = answer-nets d b x (length m) k (checked_passed d c.args.day.now.checked) c.requires refused in
    record { value = search rules ∙ e; memory_after = memory_of d b x m (Err k) e }

pub invariant_of-before : goal.invariant_of-before
invariant_of-before c =
    let d = c.args.day.now.words.now in
    let b = c.args.batch.now in
    let days = checked_rows d c.args.day.now.checked in
    let passed : netting_check d b ≡ Ok tt = sym c.check_nets.ensures ∙ c.in_ok-check_nets.was in
    let r : BatchRows d b = record { checks = batch_checked d b c.requires; at30 = netting_rows d b passed } in
    let w = tables_budget d b c.args.deposits.now days c.net_positions.new.nets c.net_positions.new.dvps c.net_positions.ensures.nets_after c.net_positions.ensures.dvps_after r in
    record { few = few_of d (entry c.net_positions.new.nets) (entry c.net_positions.new.dvps) days w }

pub report_covered-requires : goal.report_covered-requires
report_covered-requires c =
    let d = c.args.day.now.words.now in
    record { nets_len = tables_length d c.args.batch.now c.args.deposits.now (checked_rows d c.args.day.now.checked) c.net_positions.new.nets c.net_positions.new.dvps c.net_positions.ensures.nets_after c.net_positions.ensures.dvps_after }

pub returns : goal.returns
returns c =
    let d = c.args.day.now.words.now in
    let b = c.args.batch.now in
    let x = c.args.deposits.now in
    let m = c.args.memory.now in
    let days = checked_rows d c.args.day.now.checked in
    let passed : netting_check d b ≡ Ok tt = sym c.check_nets.ensures ∙ c.in_ok-check_nets.was in
    let e =
    c.report_covered.ensures.value
    ∙ ap (λ (j : ℕ). answer_of (deposit_check d x) (room_answer j (length m))) (tables_needed d b x days c.net_positions.new.nets c.net_positions.new.dvps c.net_positions.ensures.nets_after c.net_positions.ensures.dvps_after)
    ∙ answer-deposits d b x (length m) (checked_passed d c.args.day.now.checked) c.requires passed in
    record {
      value = e;
      memory_after =
          c.report_covered.ensures.memory_after
          ∙ ap (λ (w : List ℕ). written c.report_covered.result w m) (tables_report d b x days c.net_positions.new.nets c.net_positions.new.dvps c.net_positions.ensures.nets_after c.net_positions.ensures.dvps_after)
          ∙ memory_of d b x m c.report_covered.result e;
    }
