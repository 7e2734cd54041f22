use Rattle.std.proofs.Common.{rules, refl}
use Rattle.numbers.specs.Finding.{any_in}
use Rattle.model.specs.DayChecks.{bad_series_word, bad_series}
use Rattle.day_words.proofs.AnyBad.{one_bad, none_bad}
use Rattle.day_words.proofs.bad_series.Goals as goal

pub returns-then-any : goal.returns-then-any
unfolding bad_series bad_series_word
returns-then-any c =
    let a = c.args.series.now in
    one_bad _ _ _ _ (any_in _ (bad_series_word a.day.now a.place) c.any.ensures.ran (λ x v q k. search rules) refl) c.if-any.true

pub returns-else-any : goal.returns-else-any
unfolding bad_series bad_series_word
returns-else-any c =
    let a = c.args.series.now in
    none_bad _ _ _ _ (any_in _ (bad_series_word a.day.now a.place) c.any.ensures.ran (λ x v q k. search rules) refl) _ c.if-any.false (search rules)
