use Rattle.std.specs.Prelude.{Ok}
use Rattle.std.proofs.Common.{rules, ◌≡◌, length, ℕ, List, sym, ◌∙◌, ap}
use Rattle.model.specs.ManyAccounts.{accounts_check, batch_of, report_start, results_to, memory_to}
use Rattle.model.proofs.ManyAccounts.{accounts_checked, all_refused, answer_past, memory_past, results_past}
use Rattle.accounts.proofs.reports.Goals as goal

pub returns-in_err-check_accounts : goal.returns-in_err-check_accounts
returns-in_err-check_accounts c =
    let k = c.in_err-check_accounts.field-0.0 in
    let r = all_refused c.args.day.now c.args.batches.now c.args.lengths.now c.args.results.now c.args.memory.now k (sym c.check_accounts.ensures ∙ c.in_err-check_accounts.was) in
    record { result = search rules ∙ r.0; results = r.1.0; memory = r.1.1 }

pub report_all-requires : goal.report_all-requires
report_all-requires c =
    accounts_checked c.args.batches.now c.args.lengths.now (length c.args.results.now) (sym c.check_accounts.ensures ∙ c.in_ok-check_accounts.was)

pub returns : goal.returns
returns c =
    let d = c.args.day.now in
    let bs = c.args.batches.now in
    let ns = c.args.lengths.now in
    let rs = c.args.results.now in
    let m = c.args.memory.now in
    let same = c.new-day.ensures in
    let passed : accounts_check bs ns (length rs) ≡ Ok tt = sym c.check_accounts.ensures ∙ c.in_ok-check_accounts.was in
    record {
      result = ap (λ (n : ℕ). Ok n) (c.report_all.ensures.value ∙ ap (λ (w : List ℕ). report_start w (batch_of bs ns) (length m) (length ns)) same) ∙ sym (answer_past d bs ns (length rs) (length m) passed);
      results = c.report_all.ensures.results_after ∙ ap (λ (w : List ℕ). results_to w (batch_of bs ns) (length m) rs (length ns)) same ∙ sym (results_past d bs ns rs (length m) passed);
      memory = c.report_all.ensures.memory_after ∙ ap (λ (w : List ℕ). memory_to w (batch_of bs ns) m (length ns)) same ∙ sym (memory_past d bs ns (length rs) m passed);
    }
