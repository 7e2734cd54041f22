use Rattle.std.proofs.Common.{arith, ◌∙◌}
use Rattle.holdings.specs.Facts.{day_accepted}
use Rattle.holdings.specs.Seen.{day_of}
use Rattle.model.specs.DayFile.{multiplier}
use Rattle.model.proofs.Limits.{multiplier_least}
use Rattle.cover.proofs.series_covered.Goals as goal

pub contracts_covered-contracts-requires : goal.contracts_covered-contracts-requires
contracts_covered-contracts-requires c =
    let h = c.args.order.now.account.now.holdings.now in
    let e = c.series-series.ensures in
    omega (arith, c.from.ensures, c.multiplier.ensures ∙ (λ i. multiplier (e.0 i) (e.1 i)), multiplier_least (day_of h) (day_accepted h).rows c.args.s c.requires.s_bound)
