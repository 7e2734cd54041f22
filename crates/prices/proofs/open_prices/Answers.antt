use Rattle.std.specs.Int.Signed.{lt_z}
use Rattle.std.proofs.Common.{◌≡◌, true, false, w64, pos, to_z, of_z, ◌∙◌, to_z-of_z}
use Rattle.prices.proofs.open_prices.Goals as goal
use Rattle.prices.specs.Adjusted.{prices_not-short, prices_short}

pub returns-then-net-gt0 : goal.returns-then-net-gt0
returns-then-net-gt0 c =
    let h : lt_z (pos 0) (to_z w64 (of_z w64 c.args.net)) ≡ true = c.if-net-gt0.true in
    c.short_prices.ensures ∙ prices_short c.args.series.now.day.now c.args.series.now.place c.args.net (rw (to_z-of_z c.ranges.net) at h)

pub returns : goal.returns
returns c =
    let h : lt_z (pos 0) (to_z w64 (of_z w64 c.args.net)) ≡ false = c.if-net-gt0.false in
    c.theoretical_prices.ensures ∙ prices_not-short c.args.series.now.day.now c.args.series.now.place c.args.net (rw (to_z-of_z c.ranges.net) at h)
