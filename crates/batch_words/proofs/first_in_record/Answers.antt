use Rattle.std.proofs.Common.{rules, refl, ◌+◌}
use Rattle.numbers.specs.Finding.{find_below}
use Rattle.model.specs.Batch.{batch_words}
use Rattle.model.specs.BatchChecks.{row_of}
use Rattle.batch_words.proofs.first_in_record.Goals as goal

pub returns : goal.returns
returns c =
    let a = c.args.r.now in
    find_below _ (λ j. row_of c.args.row a.batch.now (batch_words a.index + j)) c.find.ensures.ran (λ x v q k. search rules) refl
