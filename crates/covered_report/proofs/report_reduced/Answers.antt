use Rattle.std.proofs.Common.{◌∙◌, ap, ℕ, List}
use Rattle.classes.specs.Checked.{checked_rows}
use Rattle.holdings.specs.Facts.{budget}
use Rattle.holdings.specs.Seen.{day_of}
use Rattle.model.proofs.Fewest.{few_of}
use Rattle.model.specs.Calls.{written}
use Rattle.numbers.specs.Table.{entry}
use Rattle.covered_report.proofs.report_reduced.Goals as goal
use Rattle.covered_report.specs.Deposits.{after_budget, after_reported}

pub invariant_of-after : goal.invariant_of-after
invariant_of-after c =
    let h = c.args.account.now.holdings.now in
    let d = day_of h in
    let r = checked_rows d h.day.now.checked in
    record { few = few_of d (entry c.cover.new.after) (entry h.dvps.now) r (after_budget d c.args.account.now.deposits.now h.nets.now h.dvps.now c.cover.new.after r c.cover.ensures (budget h)) }

pub returns : goal.returns
returns c =
    let h = c.args.account.now.holdings.now in
    let d = day_of h in
    let r = checked_rows d h.day.now.checked in
    record {
      value = c.report_accepted.ensures.value;
      memory_after =
          c.report_accepted.ensures.memory_after
          ∙ ap (λ (w : List ℕ). written c.report_accepted.result w c.args.memory.now) (after_reported d c.args.account.now.deposits.now h.nets.now h.dvps.now c.cover.new.after r c.cover.ensures);
    }
