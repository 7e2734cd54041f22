use Rattle.std.proofs.Common.{◌+◌, ◌*◌, arith}
use Rattle.model.specs.Report.{words_a_line}
use Rattle.text_fields.specs.Writing.{wrote-none, room_left, wrote_then}
use Rattle.text_lines.specs.Lines.{longest_line, line-length, lines_length, lines_more, lines_none}
use Rattle.text_lines.proofs.write_lines.Goals as goal

pub loop-k-init : goal.loop-k-init
loop-k-init c = rw (lines_none c.args.report.now) (wrote-none c.args.text.now)

pub write_line-requires-clause-room : goal.write_line-requires-clause-room
write_line-requires-clause-room c = room_left c.loop-k.invariant longest_line (omega (arith, lines_length c.args.report.now c.loop-k.k, c.requires.room))

pub loop-k-preserved : goal.loop-k-preserved
loop-k-preserved c =
    let w = c.args.report.now in
    let k = c.loop-k.k in
    rw (lines_more w k)
    (wrote_then c.loop-k.invariant c.write_line.ensures (omega (arith, lines_length w k, line-length w (3 + words_a_line * k), c.requires.room)))
