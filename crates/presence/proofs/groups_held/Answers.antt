use Rattle.std.proofs.Common.{◌≡◌, ◌-◌, false, get_or, arith, ap, ◌∙◌, set, ◌||◌}
use Rattle.classes.specs.Tables.{entry}
use Rattle.classes.specs.Checked.{checked_day}
use Rattle.model.specs.DayFile.{class_count, group}
use Rattle.numbers.specs.Flags.{flags-none, flags_more, flag}
use Rattle.numbers.specs.Table.{get_or-tabulate}
use Rattle.positions.specs.Books.{book_number}
use Rattle.presence.specs.Presence.{any_held, class_held, groups_are, groups_to, group_flags}
use Rattle.presence.proofs.groups_held.Goals as goal

pub loop-c-init : goal.loop-c-init
loop-c-init c =
    let d = c.args.day.now.words.now in
    flags-none group_flags (group d) (class_held d (entry c.args.of.now.nets.now) (entry c.args.of.now.dvps.now) (book_number c.args.of.now.book))

pub any_held-requires : goal.any_held-requires
any_held-requires c =
    let w = checked_day c.args.day.now.words.now c.args.day.now.checked in
    omega (arith, w.series)

pub loop-c-preserved : goal.loop-c-preserved
loop-c-preserved c =
    let d = c.args.day.now.words.now in
    let n = entry c.args.of.now.nets.now in
    let v = entry c.args.of.now.dvps.now in
    let k = book_number c.args.of.now.book in
    let held = class_held d n v k in
    let cls = c.loop-c.c in
    let g = c.group-g.ensures ∙ (λ i. group (c.class.ensures.0 i) (c.class.ensures.1 i)) in
    let r = c.series_of-series.ensures.range in
    (λ i. set (c.loop-c.invariant i) (g i)
    (((λ j. get_or (c.loop-c.invariant j) (g j) false) ∙ get_or-tabulate group_flags (flag (group d) held cls) (group d cls) false (omega arith)) i
    || (c.any_held.ensures ∙ (λ j. any_held n v k (r.0 j) (r.1 j - r.0 j))) i))
    ∙ flags_more group_flags (group d) held cls (omega arith)

pub returns : goal.returns
returns c =
    let d = c.args.day.now.words.now in
    let n = entry c.args.of.now.nets.now in
    let v = entry c.args.of.now.dvps.now in
    let k = book_number c.args.of.now.book in
    let w = checked_day d c.args.day.now.checked in
    let e : c.loop-c.c ≡ class_count d = omega arith in
    c.loop-c.invariant ∙ ap (groups_to d n v k) e ∙ groups_are d n v k w.rows
