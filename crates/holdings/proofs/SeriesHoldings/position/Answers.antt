use Rattle.std.proofs.Common.{◌≡◌}
use Rattle.classes.specs.Sizes.{contracts_size}
use Rattle.holdings.specs.Facts.{class_given, book_below, holding_below}
use Rattle.holdings.specs.Seen.{series_day, series_book}
use Rattle.model.specs.DayFile.{multiplier}
use Rattle.numbers.specs.Abs.{told}
use Rattle.positions.specs.Books.{holding_number}
use Rattle.holdings.proofs.SeriesHoldings.position.Goals as goal

pub invariant_of-result : goal.invariant_of-result
invariant_of-result c =
    let h = c.args.self.now in
    let e = c.series.ensures in
    let net = told c.net.type_inv c.net.ensures in
    let size : multiplier c.series.result.day.now c.series.result.place ≡ multiplier (series_day h) h.place = λ i. multiplier (e.0 i) (e.1 i) in
    record { limit = rw (net, size) (contracts_size (series_day h) h.class.now.account.now.nets.now (class_given h.class.now) (series_book h) (holding_number c.args.holding) h.place (book_below h.class.now.book) (holding_below c.args.holding) h.inside) }
