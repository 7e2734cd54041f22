use Rattle.holdings.specs.Seen.{class_day, class_net, class_book}
use Rattle.holdings.specs.Facts.{class_given, class_range, book_below}
use Rattle.std.proofs.Common.{pos, ◌∙◌, get_or, ap}
use Rattle.margin.proofs.group.class_amounts.Goals as goal
use Rattle.margin.specs.Groups.{offset_point}
use Rattle.model.proofs.Bounds.{class_point_lem}
use Rattle.model.proofs.Limits.{offset_limit}
use Rattle.model.specs.DayFile.{offset}
use Rattle.model.specs.Limits.{point_count}
use Rattle.model.specs.Steps.Additional.{after_offset}
use Rattle.model.specs.Steps.Points.{class_point}
use Rattle.numbers.specs.Abs.{told}
use Rattle.numbers.specs.Table.{get_or-tabulate, tabulate_ext, tabulate}

pub offset-after-requires : goal.offset-after-requires
offset-after-requires c =
    let d = class_day c.args.class.now in
    let n = class_net c.args.class.now in
    let k = class_book c.args.class.now in
    let cls = c.args.class.now.class in
    let r = class_range c.args.class.now in
    let w = class_given c.args.class.now in record { o_le_whole_offset = rw (c.offset.ensures ∙ (λ i. offset (c.class.ensures.0 i) (c.class.ensures.1 i))) (offset_limit (d) w.day.rows (cls) (r).class); by_index = (λ j h. rw (c.class_points-whole.ensures, get_or-tabulate point_count (class_point (d) (n) (k) (cls)) j (pos 0) h) (class_point_lem (d) (n) w.dvp w.day.rows w.budget (k) (cls) (book_below c.args.class.now.book) (r).class j h)) }

pub returns : goal.returns
returns c =
    let d = class_day c.args.class.now in
    let n = class_net c.args.class.now in
    let k = class_book c.args.class.now in
    let cls = c.args.class.now.class in
    λ i.
    record {
      spread = told c.spread.type_inv c.spread.ensures i;
      mtm = told c.mtm.type_inv c.mtm.ensures i;
      premium = told c.premium.type_inv c.premium.ensures i;
      minimum = told c.minimum.type_inv c.minimum.ensures i;
      points =
          record {
            at =
                (c.offset-after.ensures
                ∙ (λ j. tabulate point_count (λ h. after_offset ((c.offset.ensures ∙ (λ i. offset (c.class.ensures.0 i) (c.class.ensures.1 i))) j) (get_or (c.class_points-whole.ensures j) h (pos 0))))
                ∙ tabulate_ext point_count _ (λ j. offset_point (d) (n) (k) j (cls))
                (λ j h. ap (after_offset (offset (d) (cls))) (get_or-tabulate point_count (class_point (d) (n) (k) (cls)) j (pos 0) h))) i;
          };
    }
