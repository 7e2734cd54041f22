use Rattle.record_words.specs.BadRecord.{bad_word_at, bad_record, any_word}
use Rattle.record_words.proofs.bad_record.Goals as goal

pub returns : goal.returns
unfolding bad_record
returns c =
    let a = c.args.r.now in
    rw (any_word (bad_word_at a.batch.now a.index), c.bad_word_at.ensures, c.bad_word_at-2.ensures, c.bad_word_at-3.ensures, c.bad_word_at-4.ensures, c.bad_word_at-5.ensures, c.bad_word_at-6.ensures, c.bad_dvp.ensures)
