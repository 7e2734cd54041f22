use Rattle.holdings.specs.Seen.{class_day}
use Rattle.holdings.specs.Facts.{class_given}
use Rattle.std.proofs.Common.{rules, pos, ◌*ℤ◌, ◌∙◌, nat_abs, w64, to_z, to_z-of_z, ap, sym, le_of_eq}
use Rattle.numbers.specs.Table.{tabulate}
use Rattle.model.specs.DayFile.{multiplier}
use Rattle.model.specs.Limits.{point_count}
use Rattle.points.proofs.series.add_open.Goals as goal
use Rattle.points.specs.Series.{moves_to, contracts_small, open_none, moves-from_limit, moves-to_limit}

pub returns-then-net-eq0 : goal.returns-then-net-eq0
returns-then-net-eq0 c =
    let l = c.args.held.now.class.now in
    open_none (class_day l) c.args.held.now.place c.args.net l.class c.args.points.at
    (le_of_eq (ap nat_abs (sym (to_z-of_z c.ranges.net) ∙ ap (to_z w64) c.if-net-eq0.true))) (search rules)

pub add-requires : goal.add-requires
add-requires c =
    let l = c.args.held.now.class.now in
    let d = class_day l in
    let s = c.args.held.now.place in
    let net = to_z-of_z c.ranges.net in
    let e = c.open_position.ensures in
    record {
      contracts_bound = (
        rw (e.0 ∙ ap (λ z. z *ℤ pos (multiplier d s)) net) (contracts_small d s c.args.net c.requires.limit),
        rw e.1 (moves-from_limit d (class_given l).day.rows l.class s l.inside c.args.held.now.inside),
        rw (e.2 ∙ ap (λ z. tabulate point_count (moves_to d l.class s z)) net) (moves-to_limit d (class_given l).day.rows l.class s l.inside c.args.held.now.inside c.args.net),
      );
      by_index = c.requires.by_index;
    }
