use Rattle.std.proofs.Common.{◌∙◌}
use Rattle.holdings.specs.Seen.{series_day}
use Rattle.holdings.specs.Facts.{class_given}
use Rattle.model.proofs.Bounds.{strike_size}
use Rattle.model.specs.Steps.Classes.{worth}
use Rattle.numbers.specs.Abs.{told}
use Rattle.mtm.proofs.expired_mtm.Goals as goal

pub worth-requires : goal.worth-requires
worth-requires c =
    let h = c.args.held.now.class.now in
    rw (told c.above_strike.type_inv c.above_strike.ensures) (strike_size (series_day c.args.held.now) (class_given h).day.rows h.class c.args.held.now.place h.inside c.args.held.now.inside)

pub returns : goal.returns
returns c =
    let p = c.position.ensures in
    told c.worth.type_inv (c.worth.ensures ∙ (λ i. worth (p.series.0 i) (p.series.1 i) (p.net i) (told c.above_strike.type_inv c.above_strike.ensures i)))
