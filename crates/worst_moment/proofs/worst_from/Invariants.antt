use Rattle.std.proofs.Common.{◌≡◌}
use Rattle.numbers.specs.Budget.{sum_n_where}
use Rattle.numbers.specs.Highest.{highest, earliest}
use Rattle.model.specs.Rewriting.{rewritten}
use Rattle.model.specs.WorstMoment.{applies, margin_after}
use Rattle.kept_account.specs.Accounts.{nets_of, dvps_of, account_of}
use Rattle.day_steps.specs.Claims.{table_net, table_dvp}
use Rattle.worst_moment.proofs.worst_from.Given as goal

abbrev pub invariant-loop-i : goal.invariant-loop-i
invariant-loop-i l =
    record {
      account : l.account
          ≡ account_of l.day.words.now (table_net l.day.words.now (rewritten (nets_of l.fn.account) (dvps_of l.fn.account)) l.trades l.i)
          (table_dvp l.day.words.now (rewritten (nets_of l.fn.account) (dvps_of l.fn.account)) l.trades l.i);
      margin : l.margin ≡ highest (margin_after l.day.words.now (rewritten (nets_of l.fn.account) (dvps_of l.fn.account)) l.trades) l.i;
      step : l.step ≡ earliest (margin_after l.day.words.now (rewritten (nets_of l.fn.account) (dvps_of l.fn.account)) l.trades) l.i;
      applied : l.applied ≡ sum_n_where l.i (applies l.day.words.now (rewritten (nets_of l.fn.account) (dvps_of l.fn.account)) l.trades) (λ j. 1);
    }
