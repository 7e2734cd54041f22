use Rattle.holdings.specs.declared.SeriesHoldings.{SeriesHoldings}
use Rattle.holdings.specs.Seen.{series_day, series_net, series_book}
use Rattle.holdings.specs.Facts.{class_given, book_below}
use Rattle.std.proofs.Common.{◌≡◌, cond, ◌*◌, ◌≤◌, ℤ, nat_abs, to_z-of_z, ◌∙◌, ap, arith}
use Rattle.model.specs.DayFile.{series_count, series_type, is_future, multiplier}
use Rattle.model.specs.Limits.{contracts_limit}
use Rattle.spread.specs.Sides.{non_spread_of}
use Rattle.points.specs.Series.{open_added, exercised_added, both_added, counted_size, counted, opened-size}
use Rattle.points.proofs.series.add_series.Goals as goal
use Rattle.points.proofs.series.add_series.Goals.{After-counted_net, After-add_open-next}
use Rattle.classes.specs.Sizes.{net-size}
use Rattle.model.specs.Steps.Points.{counted_net}
use Rattle.model.specs.Steps.Positions.{exercised_net}
use Rattle.numbers.specs.Abs.{told}
use Rattle.numbers.specs.Machine.{i64_of}
use Rattle.spread.specs.Laws.{long-size, quantity_size, short-size}

-- the net of a series that counts at the points
abbrev counted_of : SeriesHoldings → ℤ
counted_of h = counted_net (series_day h) (series_net h) (series_book h) h.class.now.class h.place

small : (h : SeriesHoldings) → nat_abs (counted_of h) * multiplier (series_day h) h.place ≤ contracts_limit
small h =
    let l = h.class.now in
    counted_size (series_day h) l.account.now.nets.now (class_given l) (series_book h) l.class h.place (book_below l.book) l.inside h.inside

-- is what the code counts
counts : (c : After-counted_net) → i64_of c.counted_net.result ≡ counted_of c.args.held.now
counts c =
    let h = c.args.held.now in
    let quantity = to_z-of_z c.ranges.quantity ∙ c.requires.quantity_value in
    let net = told c.net-net.type_inv c.net-net.ensures in
    told c.counted_net.type_inv
    (c.counted_net.ensures
    ∙ (λ i. cond (is_future (series_type (series_day h) h.place)) (non_spread_of (quantity i) (c.requires.before_value.0 i) (c.requires.before_value.1 i) (net i)) (net i))
    ∙ counted (series_day h) (series_net h) (series_book h) h.class.now.class h.place)

-- and what the open position makes of the ten amounts
opens : (c : After-add_open-next) → i64_of c.counted_net.result ≡ counted_of c.args.held.now → c.add_open-next.result.at ≡ open_added (series_day c.args.held.now) c.args.held.now.class.now.class c.args.held.now.place c.args.points.at (counted_of c.args.held.now)
opens c e = c.add_open-next.ensures ∙ ap (open_added (series_day c.args.held.now) c.args.held.now.class.now.class c.args.held.now.place c.args.points.at) e

pub counted_net-requires : goal.counted_net-requires
counted_net-requires c =
    let h = c.args.held.now in
    let l = h.class.now in
    let w = class_given l in
    let b = book_below l.book in
    let before : h.place ≤ series_count (series_day h) = omega (arith, h.inside) in (
      rw (to_z-of_z c.ranges.quantity ∙ c.requires.quantity_value) (quantity_size (series_day h) l.account.now.nets.now w (series_book h) l.class b l.inside),
      rw c.requires.before_value.0 (short-size (series_day h) l.account.now.nets.now w (series_book h) l.class b l.inside h.place before),
      rw c.requires.before_value.1 (long-size (series_day h) l.account.now.nets.now w (series_book h) l.class b l.inside h.place before),
      rw (told c.net-net.type_inv c.net-net.ensures) (net-size (series_day h) l.account.now.nets.now w (series_book h) 0 h.place b (omega arith) h.inside),
    )

pub add_open-next-requires : goal.add_open-next-requires
add_open-next-requires c =
    record { limit = rw (counts (goal.at.add_open-next-requires c).After-counted_net) (small c.args.held.now); by_index = (λ j h. omega (arith, c.requires.by_index j h)) }

pub add_exercised-requires : goal.add_exercised-requires
add_exercised-requires c =
    let h = c.args.held.now in
    let s = goal.at.add_exercised-requires c in
    rw (opens s.After-add_open-next (counts s.After-counted_net))
    (opened-size (series_day h) (class_given h.class.now).day.rows h.class.now.class h.place c.args.points.at (counted_of h) h.class.now.inside h.inside (small h) c.requires.by_index)

pub returns : goal.returns
returns c =
    let h = c.args.held.now in
    let s = goal.at.returns c in
    let opened = opens s.After-add_open-next (counts s.After-counted_net) in
    c.add_exercised.ensures
    ∙ (λ i. exercised_added (series_day h) h.class.now.class h.place (opened i) (exercised_net (series_net h) (series_book h) h.place))
    ∙ both_added (series_day h) (series_net h) (series_book h) h.class.now.class h.place c.args.points.at
