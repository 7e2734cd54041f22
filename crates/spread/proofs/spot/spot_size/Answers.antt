use Rattle.holdings.specs.Seen.{class_day, class_net, class_book, class_from, class_to}
use Rattle.holdings.specs.Facts.{class_given, class_range, book_below}
use Rattle.std.proofs.Common.{◌∙◌, arith, ap, neg_ℤ}
use Rattle.classes.specs.Sizes.{net-size}
use Rattle.model.specs.Steps.Positions.{open_net}
use Rattle.model.specs.Steps.Spread.{held_future}
use Rattle.numbers.specs.Abs.{nat_abs-neg, sfits_abs, told}
use Rattle.numbers.specs.Extremes.{abs_z}
use Rattle.numbers.specs.Scan.{first_bad}
use Rattle.spread.specs.Laws.{spot_hit, spot_more, spot_none, spot_start}
use Rattle.spread.proofs.spot.spot_size.Goals as goal

pub loop-s-init : goal.loop-s-init
loop-s-init c =
    let h = c.args.class.now in
    ap (first_bad (held_future (class_day h) (class_net h) (class_book h) h.class)) c.series-series.ensures.range.0 ∙ spot_start (class_day h) (class_net h) (class_book h) h.class (class_from h) (class_to h) (class_range h)

pub abs-requires : goal.abs-requires
abs-requires c =
    let h = c.args.class.now in
    let z = open_net (class_net h) (class_book h) c.loop-s.s in
    rw (told c.net.type_inv c.net.ensures)
    (sfits_abs (neg_ℤ z) (omega (arith, nat_abs-neg z, net-size (class_day h) h.account.now.nets.now (class_given h) (class_book h) 0 c.loop-s.s (book_below h.book) (omega arith) (omega arith))))

pub returns-then-held_future : goal.returns-then-held_future
returns-then-held_future c =
    let h = c.args.class.now in
    told c.abs.type_inv (c.abs.ensures.value ∙ ap abs_z (told c.net.type_inv c.net.ensures))
    ∙ spot_hit (class_day h) (class_net h) (class_book h) h.class (class_from h) (class_to h) (class_range h) c.loop-s.s _ (omega arith) (omega arith) c.loop-s.invariant c.held_future.ensures c.if-held_future.true

pub loop-s-preserved : goal.loop-s-preserved
loop-s-preserved c =
    let h = c.args.class.now in
    spot_more (class_day h) (class_net h) (class_book h) h.class (class_from h) (class_to h) (class_range h) c.loop-s.s _ (omega arith) (omega arith) c.loop-s.invariant c.held_future.ensures c.if-held_future.false

pub returns : goal.returns
returns c =
    let h = c.args.class.now in
    spot_none (class_day h) (class_net h) (class_book h) h.class (class_from h) (class_to h) (class_range h) c.loop-s.s (omega arith) c.loop-s.invariant
