use Rattle.holdings.specs.Seen.{class_day, class_net, class_book, class_from, class_to}
use Rattle.holdings.specs.Facts.{class_given, class_range, book_below}
use Rattle.std.proofs.Common.{◌≤◌, ◌+ℤ◌, ◌∙◌, sym, arith, ap}
use Rattle.model.specs.DayFile.{series_count}
use Rattle.model.specs.Steps.Spread.{short_before, long_before}
use Rattle.spread.specs.Sides.{future_short, future_long}
use Rattle.spread.specs.Laws.{short_start, short_turn, short_end, short-size, long_start, long_turn, long_end, long-size}
use Rattle.spread.proofs.sides.total_sides.Goals as goal

pub loop-s-init : goal.loop-s-init
loop-s-init c =
    let h = c.args.class.now in
    let from = c.series-series.ensures.range.0 in
    record {
      short = c.new-sum.ensures.0 ∙ short_start (class_day h) (class_net h) (class_book h) h.class (class_from h) (class_to h) (class_range h) ∙ ap (short_before (class_day h) (class_net h) (class_book h) h.class) (sym from);
      long = c.new-sum.ensures.1 ∙ long_start (class_day h) (class_net h) (class_book h) h.class (class_from h) (class_to h) (class_range h) ∙ ap (long_before (class_day h) (class_net h) (class_book h) h.class) (sym from);
    }

pub add-sum-requires : goal.add-sum-requires
add-sum-requires c =
    let h = c.args.class.now in
    let m : c.loop-s.s ≤ series_count (class_day h) = omega arith in (
      rw c.loop-s.invariant.short (short-size (class_day h) h.account.now.nets.now (class_given h) (class_book h) h.class (book_below h.book) (class_range h).class c.loop-s.s m),
      rw c.loop-s.invariant.long (long-size (class_day h) h.account.now.nets.now (class_given h) (class_book h) h.class (book_below h.book) (class_range h).class c.loop-s.s m),
    )

pub loop-s-preserved : goal.loop-s-preserved
loop-s-preserved c =
    let h = c.args.class.now in
    record {
      short = c.add-sum.ensures.0 ∙ ap (λ z. z +ℤ future_short (class_day h) (class_net h) (class_book h) c.loop-s.s) c.loop-s.invariant.short
          ∙ short_turn (class_day h) (class_net h) (class_book h) h.class (class_from h) (class_to h) (class_range h) c.loop-s.s (omega arith) (omega arith);
      long = c.add-sum.ensures.1 ∙ ap (λ z. z +ℤ future_long (class_day h) (class_net h) (class_book h) c.loop-s.s) c.loop-s.invariant.long
          ∙ long_turn (class_day h) (class_net h) (class_book h) h.class (class_from h) (class_to h) (class_range h) c.loop-s.s (omega arith) (omega arith);
    }

pub returns : goal.returns
returns c =
    let h = c.args.class.now in (
      c.loop-s.invariant.short ∙ short_end (class_day h) (class_net h) (class_book h) h.class (class_from h) (class_to h) (class_range h) c.loop-s.s (omega arith),
      c.loop-s.invariant.long ∙ long_end (class_day h) (class_net h) (class_book h) h.class (class_from h) (class_to h) (class_range h) c.loop-s.s (omega arith),
    )
