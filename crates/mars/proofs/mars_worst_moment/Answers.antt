use Rattle.std.proofs.Common.{sym, ◌∙◌}
use Rattle.model.proofs.Places.{worst_value_small}
use Rattle.mars.proofs.mars_worst_moment.Goals as goal

pub packed-requires : goal.packed-requires
packed-requires c = rw (sym c.worst_moment.ensures ∙ c.in-Err.is) at (worst_value_small c.args.day.now c.args.batch.now c.args.trades.now)
