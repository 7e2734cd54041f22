use Rattle.std.proofs.Common.{rules, sym, ◌∙◌}
use Rattle.numbers.specs.Scan.{scan, first-hit, first_more}
use Rattle.day_classes.specs.Offsets.{clash, enter, start}
use Rattle.day_classes.proofs.first_other_offset.Goals as goal

pub loop-c-init : goal.loop-c-init
loop-c-init c = (search scan, start _)

pub returns-then-conflicts : goal.returns-then-conflicts
returns-then-conflicts c =
    let l = c.loop-c in
    let v = c.class-class.ensures in
    let e = rw (c.group-g.ensures, c.offset-o.ensures, v.0, v.1) at c.conflicts.ensures in
    sym (first-hit _ l.c _ l.invariant.0 (sym (e ∙ clash l.invariant.1) ∙ c.if-conflicts.true) (search rules))

pub loop-c-preserved : goal.loop-c-preserved
loop-c-preserved c =
    let l = c.loop-c in
    let v = c.class-class.ensures in
    let e = rw (c.group-g.ensures, c.offset-o.ensures, v.0, v.1) at c.conflicts.ensures in (
      first_more _ l.c l.invariant.0 (sym (e ∙ clash l.invariant.1) ∙ c.if-conflicts.false),
      rw (c.group-g.ensures, c.offset-o.ensures, v.0, v.1) (enter l.invariant.1 (sym e ∙ c.if-conflicts.false)),
    )
