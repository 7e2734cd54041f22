use Rattle.std.proofs.Common.{◌<◌, ◌≤◌, arith, ◌^◌}
use Rattle.holdings.specs.Facts.{given}
use Rattle.holdings.specs.Seen.{day_of}
use Rattle.cover.proofs.order.order_key.Goals as goal
use Rattle.cover.proofs.order.order_key.Goals.{After-short_of-short, After-from-expiry}
use Rattle.cover.specs.Shorts.{short_limit}
use Rattle.model.specs.Limits.{contracts_limit}

-- how large a net short is, and an expiry
few : (c : After-short_of-short) → c.short_of-short.result ≤ contracts_limit
few c =
    let h = c.args.before.now in
    omega (arith, c.short_of-short.ensures, short_limit (day_of h) h.nets.now (given h) c.args.s c.requires)

early : (c : After-from-expiry) → c.from-expiry.result < 2 ^ 12
early c = omega (arith, c.from-expiry.ensures, c.expiry.ensures)

pub overflow_mul-result : goal.overflow_mul-result
overflow_mul-result c = record { fits = omega (arith, few (goal.at.overflow_mul-result c).After-short_of-short) }

pub overflow_add-result : goal.overflow_add-result
overflow_add-result c =
    let a = goal.at.overflow_add-result c in
    record { fits = omega (arith, few a.After-short_of-short, early a.After-from-expiry) }

pub overflow_add-result-2 : goal.overflow_add-result-2
overflow_add-result-2 c =
    let a = goal.at.overflow_add-result-2 c in
    record { fits = omega (arith, few a.After-short_of-short, early a.After-from-expiry, c.open_rank.ensures.1) }

pub overflow_sub-result-2 : goal.overflow_sub-result-2
overflow_sub-result-2 c = omega (arith, (given c.args.before.now).day.series, c.requires)

pub overflow_add-result-3 : goal.overflow_add-result-3
overflow_add-result-3 c =
    let a = goal.at.overflow_add-result-3 c in
    record { fits = omega (arith, few a.After-short_of-short, early a.After-from-expiry, c.open_rank.ensures.1) }
