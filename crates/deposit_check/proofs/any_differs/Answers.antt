use Rattle.std.proofs.Common.{rules, ◌∙◌, arith}
use Rattle.classes.specs.Checked.{checked_day}
use Rattle.deposit_check.specs.Unlike.{class_differing, differing, stands, first_inside, differ_start, differ_at, differ_all}
use Rattle.deposit_check.proofs.Within.{any_within}
use Rattle.deposit_check.proofs.any_differs.Goals as goal

pub returns : goal.returns
returns c =
    let d = c.args.day.now.words.now in
    let r = stands (checked_day d c.args.day.now.checked) c.requires.c_bound c.series_of.ensures.range in
    let i = first_inside d c.args.c _ _ r c.args.first c.requires.first_value in
    any_within _ (class_differing d c.args.c c.args.first) (differing d c.args.first) c.any.ensures.ran (λ x v q k. search rules)
    (omega (arith, i.1)) (differ_start d c.args.c _ _ r c.args.first c.requires.first_value)
    (λ s p q. differ_at d c.args.c _ _ r c.args.first c.requires.first_value s (omega (arith, i.0)) q)
    ∙ differ_all d c.args.c _ _ r c.args.first c.requires.first_value
