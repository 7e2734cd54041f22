use Rattle.std.proofs.Common.{[], ◌∙◌, arith, length, ◌/◌}
use Rattle.model.specs.Bytes.{written_bytes}
use Rattle.model.specs.Calls.{answer, report}
use Rattle.byte_report.specs.Room.{front_words}
use Rattle.byte_report.proofs.report_within.Goals as goal

pub whole_as_slice-decode : goal.whole_as_slice-decode
whole_as_slice-decode g c = omega (arith, c.requires.most_words.0)

pub whole_as_slice-decode-2 : goal.whole_as_slice-decode-2
whole_as_slice-decode-2 g c = omega (arith, c.requires.most_words.1)

pub shared_whole_as_front-report_words : goal.shared_whole_as_front-report_words
shared_whole_as_front-report_words g c = (omega (arith, c.requires.within.0), omega (arith, c.requires.most_words.0))

pub shared_whole_as_front-report_words-2 : goal.shared_whole_as_front-report_words-2
shared_whole_as_front-report_words-2 g c = (omega (arith, c.requires.within.1), omega (arith, c.requires.most_words.1))

pub returns-clause-value : goal.returns-clause-value
returns-clause-value g c =
    let p = front_words c.args.day.now _ _ c.decode.ensures in
    let q = front_words c.args.batch.now _ _ c.decode-2.ensures in
    c.report_words.ensures.value ∙ (λ i. answer (p i) (q i) [] (length c.args.memory.now / 4))

pub returns-clause-memory_after : goal.returns-clause-memory_after
returns-clause-memory_after g c =
    let p = front_words c.args.day.now _ _ c.decode.ensures in
    let q = front_words c.args.batch.now _ _ c.decode-2.ensures in
    c.report_words.ensures.memory_after ∙ (λ i. written_bytes c.report_words.result (report (p i) (q i) []) c.args.memory.now)
