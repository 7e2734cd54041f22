use Rattle.program.specs.Files.{room_of_lem, text_fits}
use Rattle.program.proofs.print_words.Goals as goal

pub write_answer-requires-clause-room : goal.write_answer-requires-clause-room
write_answer-requires-clause-room c =
    room_of_lem c.args.day.now c.args.batch.now c.args.memory.now c.report-answer.result c.report-answer.new.memory c.report-answer.ensures.result c.report-answer.ensures.memory

pub returns-clause-prefix_len : goal.returns-clause-prefix_len
returns-clause-prefix_len c = text_fits _ c.args.out.now c.write_answer.new.out c.write_answer.result c.write_answer.ensures.0 c.write_answer.ensures.1
