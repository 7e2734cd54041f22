use Rattle.std.proofs.Common.{rules, refl}
use Rattle.numbers.specs.Finding.{find_below}
use Rattle.record_words.specs.BadRecord.{bad_record}
use Rattle.record_words.proofs.first_bad_record.Goals as goal

pub returns : goal.returns
returns c = find_below _ (bad_record c.args.batch.now) c.find.ensures.ran (λ x v q k. search rules) refl
