use Rattle.std.proofs.Common.{rules, refl}
use Rattle.numbers.specs.Finding.{any_in}
use Rattle.model.specs.DayChecks.{bad_class_word, bad_class}
use Rattle.day_words.proofs.AnyBad.{one_bad, none_bad}
use Rattle.day_words.proofs.bad_class.Goals as goal

pub returns-then-any : goal.returns-then-any
unfolding bad_class bad_class_word
returns-then-any c =
    let a = c.args.class.now in
    one_bad _ _ _ _ (any_in _ (bad_class_word a.day.now a.place) c.any.ensures.ran (λ x v q k. search rules) refl) c.if-any.true

pub returns-else-any : goal.returns-else-any
unfolding bad_class bad_class_word
returns-else-any c =
    let a = c.args.class.now in
    none_bad _ _ _ _ (any_in _ (bad_class_word a.day.now a.place) c.any.ensures.ran (λ x v q k. search rules) refl) _ c.if-any.false (search rules)
