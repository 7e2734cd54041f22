use Rattle.std.proofs.Common.{sym, ◌∙◌, length}
use Rattle.netting_times.specs.Netted.{can_net}
use Rattle.netting_times.proofs.mars_net_times.Goals as goal

pub invariant_of-net_more : goal.invariant_of-net_more
invariant_of-net_more c =
    record { limited = (can_net c.args.day.now c.args.batch.now (length c.args.nets.now) (length c.args.dvps.now) (sym c.can_net.ensures ∙ c.if-can_net.true)).0 }
