use Rattle.holdings.specs.Seen.{class_day, class_net, class_book, class_from, class_to}
use Rattle.holdings.specs.Facts.{class_given, class_range, book_below}
use Rattle.std.proofs.Common.{◌+◌, ◌≤◌, ◌+ℤ◌, ◌∙◌, sym, ap, arith}
use Rattle.model.specs.DayFile.{series_count}
use Rattle.model.proofs.Bounds.{premium_so_far}
use Rattle.numbers.specs.Abs.{back, fits_by, told}
use Rattle.premium.specs.Laws.{premium_start, premium_turn, premium_end, premium_to}
use Rattle.premium.proofs.premium.Goals as goal

pub loop-s-init : goal.loop-s-init
loop-s-init c =
    let h = c.args.class.now in
    premium_start (class_day h) (class_net h) (class_book h) h.class (class_from h) (class_to h) (class_range h) ∙ ap (premium_to (class_day h) (class_net h) (class_book h) h.class) (sym c.series-series.ensures.range.0)

pub overflow_add-sum : goal.overflow_add-sum
overflow_add-sum c =
    let h = c.args.class.now in
    let w = class_given h in
    let next = (λ i. c.loop-s.invariant i +ℤ told c.series_premium-sum.type_inv c.series_premium-sum.ensures i) ∙ premium_turn (class_day h) (class_net h) (class_book h) h.class (class_from h) (class_to h) (class_range h) c.loop-s.s (omega arith) (omega arith) in
    let m : c.loop-s.s + 1 ≤ series_count (class_day h) = omega arith in
    fits_by next (omega (arith, premium_so_far (class_day h) (class_net h) w.dvp w.day.rows w.budget (class_book h) h.class (c.loop-s.s + 1) (book_below h.book) (class_range h).class m))

pub loop-s-preserved : goal.loop-s-preserved
loop-s-preserved c =
    let h = c.args.class.now in
    let w = class_given h in
    let next = (λ i. c.loop-s.invariant i +ℤ told c.series_premium-sum.type_inv c.series_premium-sum.ensures i) ∙ premium_turn (class_day h) (class_net h) (class_book h) h.class (class_from h) (class_to h) (class_range h) c.loop-s.s (omega arith) (omega arith) in
    let m : c.loop-s.s + 1 ≤ series_count (class_day h) = omega arith in
    back next (omega (arith, premium_so_far (class_day h) (class_net h) w.dvp w.day.rows w.budget (class_book h) h.class (c.loop-s.s + 1) (book_below h.book) (class_range h).class m))

pub returns : goal.returns
returns c =
    let h = c.args.class.now in
    c.loop-s.invariant ∙ premium_end (class_day h) (class_net h) (class_book h) h.class (class_from h) (class_to h) (class_range h) c.loop-s.s (omega arith)
