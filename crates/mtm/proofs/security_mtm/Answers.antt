use Rattle.holdings.specs.Seen.{series_day, series_net, series_dvp, series_book}
use Rattle.holdings.specs.Facts.{class_given, class_budget, book_below}
use Rattle.std.proofs.Common.{◌≡◌, ◌-ℤ◌, ◌∙◌, ◌<◌, ◌^◌, nat_abs}
use Rattle.model.proofs.Limits.{closing_limit}
use Rattle.model.specs.Steps.Classes.{worth}
use Rattle.model.specs.Steps.Mtm.{security_mtm}
use Rattle.mtm.specs.Laws.{mtm_fits}
use Rattle.numbers.specs.Abs.{back, fits_by, told}
use Rattle.numbers.specs.Machine.{i64_of}
use Rattle.worth.specs.Closing.{closing_price}
use Rattle.mtm.proofs.security_mtm.Goals as goal
use Rattle.mtm.proofs.security_mtm.Goals.{After-dvp}

-- what the code takes from the other, and that it fits
value : (c : After-dvp) → i64_of c.worth.result -ℤ i64_of c.dvp.result ≡ security_mtm (series_day c.args.held.now) (series_net c.args.held.now) (series_dvp c.args.held.now) (series_book c.args.held.now) c.args.held.now.place
value c =
    let p = c.position.ensures in
    λ i. told c.worth.type_inv (c.worth.ensures ∙ (λ j. worth (p.series.0 j) (p.series.1 j) (p.net j) (told c.from-price.type_inv (closing_price c.from-price.ensures c.closing.ensures c.series.ensures) j))) i -ℤ told c.dvp.type_inv c.dvp.ensures i

fits : (c : After-dvp) → nat_abs (security_mtm (series_day c.args.held.now) (series_net c.args.held.now) (series_dvp c.args.held.now) (series_book c.args.held.now) c.args.held.now.place) < 2 ^ 63
fits c =
    let h = c.args.held.now.class.now in
    mtm_fits (series_day c.args.held.now) h.account.now.nets.now (class_given h) (series_book c.args.held.now) c.args.held.now.place (book_below h.book) c.args.held.now.inside (series_dvp c.args.held.now) (class_budget h)

pub worth-requires : goal.worth-requires
worth-requires c =
    let h = c.args.held.now.class.now in
    rw (told c.from-price.type_inv (closing_price c.from-price.ensures c.closing.ensures c.series.ensures)) (closing_limit (series_day c.args.held.now) (class_given h).day.rows c.args.held.now.place c.args.held.now.inside)

pub overflow_sub-result : goal.overflow_sub-result
overflow_sub-result c = let d = (goal.at.overflow_sub-result c).After-dvp in fits_by (value d) (fits d)

pub returns : goal.returns
returns c = let d = (goal.at.returns c).After-dvp in back (value d) (fits d)
