use Rattle.std.specs.Prelude.{is_ok}
use Rattle.std.proofs.Common.{◌≡◌, ◌∙◌, sym, ap, length, ℕ, List, eqb-true}
use Rattle.holdings.specs.Seen.{day_of, net_of, dvp_of}
use Rattle.model.specs.Calls.{room_answer, written}
use Rattle.model.specs.DepositChecks.{deposit_check}
use Rattle.model.specs.Report.{words_needed}
use Rattle.covered_report.proofs.report_covered.Goals as goal
use Rattle.covered_report.specs.Deposits.{none_answered, none_reported_lem}

pub returns-then-is_empty : goal.returns-then-is_empty
returns-then-is_empty c =
    let h = c.args.before.now in
    let x = c.args.deposits.now in
    let e : length x ≡ 0 = eqb-true (length x) 0 (sym c.if-is_empty.ensures) in
    record {
      value = c.report_accepted.ensures.value ∙ none_answered (day_of h) x e (room_answer (words_needed (day_of h) (net_of h) (dvp_of h)) (length c.args.memory.now));
      memory_after =
          c.report_accepted.ensures.memory_after
          ∙ ap (λ (w : List ℕ). written c.report_accepted.result w c.args.memory.now) (none_reported_lem (day_of h) x e (net_of h) (dvp_of h));
    }

pub invariant_of-account : goal.invariant_of-account
invariant_of-account c = record { checked = ap is_ok (sym c.check_deposits.ensures ∙ c.in_ok-check_deposits.was) }
