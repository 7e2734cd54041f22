use Rattle.holdings.specs.Seen.{class_day, class_net, class_book, class_from, class_to}
use Rattle.holdings.specs.Facts.{class_given, class_range, book_below}
use Rattle.std.proofs.Common.{◌≤◌, List, ℤ, pos, ◌+ℤ◌, arith, ◌∙◌, ap, get_or, sym}
use Rattle.numbers.specs.Table.{tabulate}
use Rattle.model.specs.Limits.{point_count}
use Rattle.model.specs.DayFile.{series_count}
use Rattle.model.specs.Steps.Points.{point_of}
use Rattle.model.specs.Steps.Spread.{long_before, short_before}
use Rattle.points.specs.Series.{points-size, points_end, points_start, points_to, points_turn}
use Rattle.numbers.specs.Abs.{back}
use Rattle.spread.specs.Laws.{quantity_size, long-size, long_start, long_turn, short-size, short_start, short_turn}
use Rattle.spread.specs.Sides.{future_long, future_short}
use Rattle.points.proofs.class_points.class_points.Goals as goal

pub loop-s-init : goal.loop-s-init
loop-s-init c =
    let h = c.args.of.now.class.now in
    let from = sym c.series-series.ensures.range.0 in
    record {
      sum = c.new-sum.ensures ∙ points_start (class_day h) (class_net h) (class_book h) h.class (class_from h) (class_to h) (class_range h) ∙ ap (points_to (class_day h) (class_net h) (class_book h) h.class) from;
      short = c.new-before.ensures.0 ∙ short_start (class_day h) (class_net h) (class_book h) h.class (class_from h) (class_to h) (class_range h) ∙ ap (short_before (class_day h) (class_net h) (class_book h) h.class) from;
      long = c.new-before.ensures.1 ∙ long_start (class_day h) (class_net h) (class_book h) h.class (class_from h) (class_to h) (class_range h) ∙ ap (long_before (class_day h) (class_net h) (class_book h) h.class) from;
    }

pub add_series-sum-requires : goal.add_series-sum-requires
add_series-sum-requires c =
    let h = c.args.of.now.class.now in
    let m : c.loop-s.s ≤ series_count (class_day h) = omega arith in
    record {
      quantity_value = back c.args.of.now.value (omega (arith, quantity_size (class_day h) h.account.now.nets.now (class_given h) (class_book h) h.class (book_below h.book) (class_range h).class));
      before_value = (c.loop-s.invariant.short, c.loop-s.invariant.long);
      by_index = rw c.loop-s.invariant.sum (points-size (class_day h) h.account.now.nets.now (class_given h) (class_book h) h.class c.loop-s.s (book_below h.book) (class_range h).class m);
    }

pub add-before-requires : goal.add-before-requires
add-before-requires c =
    let h = c.args.of.now.class.now in
    let m : c.loop-s.s ≤ series_count (class_day h) = omega arith in (
      rw c.loop-s.invariant.short (short-size (class_day h) h.account.now.nets.now (class_given h) (class_book h) h.class (book_below h.book) (class_range h).class c.loop-s.s m),
      rw c.loop-s.invariant.long (long-size (class_day h) h.account.now.nets.now (class_given h) (class_book h) h.class (book_below h.book) (class_range h).class c.loop-s.s m),
    )

pub loop-s-preserved : goal.loop-s-preserved
loop-s-preserved c =
    let h = c.args.of.now.class.now in
    let s = c.loop-s.s in
    record {
      sum = c.add_series-sum.ensures
          ∙ ap (λ (t : List ℤ). tabulate point_count (λ j. get_or t j (pos 0) +ℤ point_of (class_day h) (class_net h) (class_book h) h.class j s)) c.loop-s.invariant.sum
          ∙ points_turn (class_day h) (class_net h) (class_book h) h.class (class_from h) (class_to h) (class_range h) s (omega arith) (omega arith);
      short = c.add-before.ensures.0 ∙ ap (λ z. z +ℤ future_short (class_day h) (class_net h) (class_book h) s) c.loop-s.invariant.short
          ∙ short_turn (class_day h) (class_net h) (class_book h) h.class (class_from h) (class_to h) (class_range h) s (omega arith) (omega arith);
      long = c.add-before.ensures.1 ∙ ap (λ z. z +ℤ future_long (class_day h) (class_net h) (class_book h) s) c.loop-s.invariant.long
          ∙ long_turn (class_day h) (class_net h) (class_book h) h.class (class_from h) (class_to h) (class_range h) s (omega arith) (omega arith);
    }

pub returns : goal.returns
returns c =
    let h = c.args.of.now.class.now in
    c.loop-s.invariant.sum ∙ points_end (class_day h) (class_net h) (class_book h) h.class (class_from h) (class_to h) (class_range h) c.loop-s.s (omega arith)
