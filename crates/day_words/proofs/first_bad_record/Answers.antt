use Rattle.std.proofs.Common.{rules, refl}
use Rattle.numbers.specs.Finding.{find_below}
use Rattle.model.specs.DayChecks.{row12}
use Rattle.day_words.proofs.first_bad_record.Goals as goal

pub returns : goal.returns
returns c = find_below _ (row12 c.args.day.now.words.now) c.find.ensures.ran (λ x v q k. search rules) refl
