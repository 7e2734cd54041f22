use Rattle.std.proofs.Common.{◌≡◌, ◌+◌, ◌*◌, ap, arith, length-append, ◌∙◌}
use Rattle.model.specs.Words.{payload}
use Rattle.model.specs.Reading.{count_in}
use Rattle.model.specs.Printed.{count_text, lines_text, report_text}
use Rattle.model.specs.Report.{words_a_line}
use Rattle.text_lines.specs.Lines.{lines_length}
use Rattle.text_fields.specs.Writing.{room_left, wrote_then}
use Rattle.text.specs.Texts.{count-length, totals-length}
use Rattle.text.proofs.lines.write_report.Goals as goal

pub write_lines-requires-clause-room : goal.write_lines-requires-clause-room
write_lines-requires-clause-room c =
    let counted : c.payload-count.result ≡ count_in c.args.report.now = c.payload-count.ensures ∙ ap payload c.word_at.ensures in
    room_left c.write_count.ensures _ (omega (arith, counted, count-length c.from.result, c.requires.report_bound, c.requires.longest_text_in_bounds))

pub write_totals-requires-clause-room : goal.write_totals-requires-clause-room
write_totals-requires-clause-room c =
    let counted : c.payload-count.result ≡ count_in c.args.report.now = c.payload-count.ensures ∙ ap payload c.word_at.ensures in
    let h₁ = count-length c.from.result in
    let h₂ = lines_length c.args.report.now c.payload-count.result in
    room_left c.write_lines.ensures 72 (room_left c.write_count.ensures _ (omega (arith, counted, c.requires.report_bound, c.requires.longest_text_in_bounds)))

pub returns : goal.returns
unfolding report_text
returns c =
    let w = c.args.report.now in
    let n = c.payload-count.result in
    let counted : n ≡ count_in w = c.payload-count.ensures ∙ ap payload c.word_at.ensures in
    let few = c.requires.report_bound in
    let e = c.from.ensures in
    let h₁ = count-length n in
    let h₂ = lines_length w n in
    let h₃ = totals-length w (4 + words_a_line * n) in
    let h₄ = length-append (count_text n) (lines_text w n) in
    let l = wrote_then (rw e at c.write_count.ensures) c.write_lines.ensures (omega (arith, counted, c.requires.longest_text_in_bounds)) in
    rw (← counted) (wrote_then l c.write_totals.ensures (omega (arith, counted, c.requires.longest_text_in_bounds)))
