use Rattle.holdings.specs.Seen.{class_day, class_net, class_book, class_from, class_to}
use Rattle.holdings.specs.Facts.{class_given, class_range, book_below}
use Rattle.std.proofs.Common.{ℕ, ℤ, ◌≡◌, ◌+◌, ◌^◌, nat_abs, ◌<◌, pos, ◌∙◌, get_or, arith, set, sym, ap}
use Rattle.classes.specs.Sizes.{net-size}
use Rattle.minimum.specs.Types.{type_slots, type_size, type_to, types_to, types_end, types_start, types_turn}
use Rattle.model.specs.DayFile.{series_count, series_type}
use Rattle.numbers.specs.Machine.{add_fits, add_is}
use Rattle.numbers.specs.Table.{get_or-tabulate}
use Rattle.model.specs.Steps.Positions.{open_net}
use Rattle.holdings.specs.declared.ClassHoldings.{ClassHoldings}
use Rattle.minimum.proofs.type_nets.Goals as goal
use Rattle.minimum.proofs.type_nets.Goals.{After-net}

pub loop-s-init : goal.loop-s-init
loop-s-init c =
    let h = c.args.class.now in
    types_start (class_day h) (class_net h) (class_book h) h.class (class_from h) (class_to h) (class_range h) ∙ ap (types_to (class_day h) (class_net h) (class_book h) h.class) (sym c.series-series.ensures.range.0)

-- the sum within a type before series s
abbrev below : ClassHoldings → ℕ → ℕ → ℤ
below h = type_to (class_day h) (class_net h) (class_book h) h.class

-- the slot of the series at hand, what it held, and that a net more fits
slot : (c : After-net) → c.type_number-t.result ≡ series_type (class_day c.args.class.now) c.loop-s.s
slot c = c.type_number-t.ensures.0 ∙ (λ i. series_type (c.series.ensures.0 i) (c.series.ensures.1 i))

was : (c : After-net) → get_or c.loop-s.sums c.type_number-t.result (pos 0) ≡ below c.args.class.now c.loop-s.s (series_type (class_day c.args.class.now) c.loop-s.s)
was c =
    let h = c.args.class.now in
    let s = c.loop-s.s in
    (λ j. get_or (c.loop-s.invariant j) (slot c j) (pos 0)) ∙ get_or-tabulate type_slots (below h s) (series_type (class_day h) s) (pos 0) (omega (arith, c.type_number-t.ensures.1, slot c))

fits : (c : After-net) → nat_abs (below c.args.class.now c.loop-s.s (series_type (class_day c.args.class.now) c.loop-s.s)) + nat_abs (open_net (class_net c.args.class.now) (class_book c.args.class.now) c.loop-s.s) < 2 ^ 63
fits c =
    let h = c.args.class.now in
    let s = c.loop-s.s in
    let m : s < series_count (class_day h) = omega arith in
    let own = type_size (class_day h) h.account.now.nets.now (class_given h) (class_book h) h.class (book_below h.book) (class_range h).class s (series_type (class_day h) s) (omega arith) in
    omega (arith, own, net-size (class_day h) h.account.now.nets.now (class_given h) (class_book h) 0 s (book_below h.book) (omega arith) m)

pub overflow_add-sums : goal.overflow_add-sums
overflow_add-sums c = let d = (goal.at.overflow_add-sums c).After-net in add_fits (was d) c.net.ensures (fits d)

pub loop-s-preserved : goal.loop-s-preserved
loop-s-preserved c =
    let h = c.args.class.now in
    let d = (goal.at.loop-s-preserved c).After-net in
    (λ i. set (c.loop-s.invariant i) (slot d i) (add_is (was d) c.net.ensures (fits d) i)) ∙ types_turn (class_day h) (class_net h) (class_book h) h.class (class_from h) (class_to h) (class_range h) c.loop-s.s (omega arith) (omega arith)

pub returns : goal.returns
returns c =
    let h = c.args.class.now in
    c.loop-s.invariant ∙ types_end (class_day h) (class_net h) (class_book h) h.class (class_from h) (class_to h) (class_range h) c.loop-s.s (omega arith)
