use Rattle.std.proofs.Common.{rules, ◌∙◌}
use Rattle.model.specs.DayFile.{series_type}
use Rattle.model.specs.Steps.Cover.{is_coverable, coverable_of}
use Rattle.classes.specs.Checked.{checked_day}
use Rattle.deposit_check.specs.Unlike.{stands, cover_start, cover_at, cover_all}
use Rattle.deposit_check.proofs.Within.{find_within}
use Rattle.deposit_check.proofs.first_coverable.Goals as goal

pub returns : goal.returns
returns c =
    let d = c.args.day.now.words.now in
    let r = stands (checked_day d c.args.day.now.checked) c.requires c.series_of.ensures.range in
    find_within _ (coverable_of d c.args.c) (λ s. is_coverable (series_type d s)) c.find.ensures.ran (λ x v q k. search rules)
    r.rising (cover_start d c.args.c _ _ r) (cover_at d c.args.c _ _ r)
    ∙ cover_all d c.args.c _ _ r
