use Rattle.std.specs.Prelude.{◌*◌, replicate, is_some}
use Rattle.std.proofs.Common.{List, ℕ, length, ap, refl, ◌∙◌}
use Rattle.numbers.specs.Put.{put}
use Rattle.model.specs.Report.{longest_report}
use Rattle.byte_check.specs.Files.{file_bytes}
use Rattle.program.specs.Files.{long, decoded, text_fits}
use Rattle.program.proofs.print_files.Goals as goal

pub write_answer-requires-clause-room : goal.write_answer-requires-clause-room
write_answer-requires-clause-room c =
    let a = c.answer_files-answer in
    (decoded (is_some c.args.day) (file_bytes c.args.day) (is_some c.args.batch) (file_bytes c.args.batch) a.result a.new.memory a.ensures.value a.ensures.memory_after
    (long a.new.memory (replicate (4 * longest_report) 0) a.auto.memory refl) _ c.decode.new.words refl c.decode.ensures).1

pub returns-clause-value : goal.returns-clause-value
returns-clause-value c =
    let a = c.answer_files-answer in
    let t = (decoded (is_some c.args.day) (file_bytes c.args.day) (is_some c.args.batch) (file_bytes c.args.batch) a.result a.new.memory a.ensures.value a.ensures.memory_after
    (long a.new.memory (replicate (4 * longest_report) 0) a.auto.memory refl) _ c.decode.new.words refl c.decode.ensures).0 in
    (c.write_answer.ensures.0 ∙ ap length t, c.write_answer.ensures.1 ∙ ap (λ (x : List ℕ). put 0 x c.args.out.now) t)

pub returns-clause-prefix_len : goal.returns-clause-prefix_len
returns-clause-prefix_len c = text_fits _ c.args.out.now c.write_answer.new.out c.write_answer.result c.write_answer.ensures.0 c.write_answer.ensures.1
