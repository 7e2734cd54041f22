use Rattle.std.proofs.Common.{rules, sym, ◌∙◌}
use Rattle.worst_moment.specs.Stages.{day_refused}
use Rattle.worst_moment.proofs.worst_moment.Goals as goal

pub returns-in_err-checked_day : goal.returns-in_err-checked_day
returns-in_err-checked_day c =
    let k = c.in_err-checked_day.field-0.0 in
    search rules ∙ sym (day_refused c.args.day.now c.args.batch.now c.args.trades.now k (c.checked_day.ensures.1 k c.in_err-checked_day.was))
