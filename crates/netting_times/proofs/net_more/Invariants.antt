use Rattle.std.proofs.Common.{◌≡◌, length}
use Rattle.numbers.specs.Table.{tabulate}
use Rattle.model.specs.Netting.{net, dvp, position_count}
use Rattle.netting_times.proofs.net_more.Given as goal

abbrev pub invariant-loop : goal.invariant-loop
invariant-loop l =
    (length l.nets ≡ position_count) × (length l.dvps ≡ position_count)
    × (l.nets ≡ tabulate position_count (net l.fn.batch.words.now)) × (l.dvps ≡ tabulate position_count (dvp l.fn.batch.words.now))
