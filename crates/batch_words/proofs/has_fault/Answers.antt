use Rattle.model.specs.BatchChecks.{wrong_kind, out_of_range, minus_zero, row22, row27, row28}
use Rattle.model.proofs.BatchWords.{at_word_lem}
use Rattle.batch_words.proofs.has_fault.Goals as goal

pub returns-in-Row22 : goal.returns-in-Row22
unfolding row22
returns-in-Row22 c =
    let r = c.args.r.now in
    rw (c.in-Row22.is, at_word_lem (wrong_kind r.batch.now) r.index c.args.j c.requires, c.wrong_kind.ensures)

pub returns-in-Row27 : goal.returns-in-Row27
unfolding row27
returns-in-Row27 c =
    let r = c.args.r.now in
    rw (c.in-Row27.is, at_word_lem (out_of_range r.batch.now) r.index c.args.j c.requires, c.out_of_range.ensures)

pub returns-in-Row28 : goal.returns-in-Row28
unfolding row28
returns-in-Row28 c =
    let r = c.args.r.now in
    rw (c.in-Row28.is, at_word_lem (minus_zero r.batch.now) r.index c.args.j c.requires, c.minus_zero.ensures)
