use Rattle.holdings.specs.Seen.{series_day, series_net, series_book}
use Rattle.holdings.specs.Facts.{class_given, book_below}
use Rattle.std.proofs.Common.{◌≡◌, pos, ◌+ℤ◌, ◌∙◌, sym, ◌<◌, ◌^◌, nat_abs}
use Rattle.model.proofs.Limits.{closing_limit}
use Rattle.model.specs.DayFile.{series_type, is_option}
use Rattle.model.specs.Steps.Classes.{worth}
use Rattle.model.specs.Steps.Premium.{premium_of}
use Rattle.numbers.specs.Abs.{back, fits_by, told}
use Rattle.numbers.specs.Machine.{i64_of}
use Rattle.numbers.specs.Tests.{cond_on}
use Rattle.premium.specs.Laws.{money_size, premium_fits}
use Rattle.worth.specs.Closing.{closing_price}
use Rattle.premium.proofs.series_premium.Goals as goal
use Rattle.premium.proofs.series_premium.Goals.{After-worth-2}

-- what both positions are worth together, and that it fits
value : (c : After-worth-2) → i64_of c.worth.result +ℤ i64_of c.worth-2.result ≡ premium_of (series_day c.args.held.now) (series_net c.args.held.now) (series_book c.args.held.now) c.args.held.now.class.now.class c.args.held.now.place
value c =
    let p = c.position.ensures in
    let q = c.position-exercised.ensures in
    let price = told c.from-price.type_inv (closing_price c.from-price.ensures c.closing.ensures c.series-series.ensures) in
    let money = told c.in_the_money-value.type_inv c.in_the_money-value.ensures in
    λ i. told c.worth.type_inv (c.worth.ensures ∙ (λ j. worth (p.series.0 j) (p.series.1 j) (p.net j) (price j))) i
    +ℤ told c.worth-2.type_inv (c.worth-2.ensures ∙ (λ j. worth (q.series.0 j) (q.series.1 j) (q.net j) (money j))) i

fits : (c : After-worth-2) → nat_abs (premium_of (series_day c.args.held.now) (series_net c.args.held.now) (series_book c.args.held.now) c.args.held.now.class.now.class c.args.held.now.place) < 2 ^ 63
fits c =
    let h = c.args.held.now.class.now in
    premium_fits (series_day c.args.held.now) h.account.now.nets.now (class_given h) (series_book c.args.held.now) c.args.held.now.place (book_below h.book) c.args.held.now.inside h.class h.inside

pub worth-requires : goal.worth-requires
worth-requires c =
    let h = c.args.held.now.class.now in
    rw (told c.from-price.type_inv (closing_price c.from-price.ensures c.closing.ensures c.series-series.ensures)) (closing_limit (series_day c.args.held.now) (class_given h).day.rows c.args.held.now.place c.args.held.now.inside)

pub worth-requires-2 : goal.worth-requires-2
worth-requires-2 c =
    let h = c.args.held.now.class.now in
    rw (told c.in_the_money-value.type_inv c.in_the_money-value.ensures) (money_size (series_day c.args.held.now) (class_given h).day.rows h.class c.args.held.now.place h.inside c.args.held.now.inside).1

pub overflow_add-result : goal.overflow_add-result
overflow_add-result c = let d = (goal.at.overflow_add-result c).After-worth-2 in fits_by (value d) (fits d)

pub returns : goal.returns
returns c =
    let d = (goal.at.returns c).After-worth-2 in
    let e = c.series-series.ensures in
    let option = sym (λ i. is_option (series_type (e.0 i) (e.1 i))) ∙ sym c.is_option.ensures ∙ c.if-not-is_option.false in
    back (value d) (fits d) ∙ cond_on _ _ (pos 0) option
