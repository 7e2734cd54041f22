use Rattle.std.specs.Prelude.{is_some}
use Rattle.std.proofs.Common.{sym, ◌∙◌}
use Rattle.byte_check.specs.Files.{file_bytes}
use Rattle.program.specs.Files.{files_passed, opened_bytes}
use Rattle.program.proofs.answer_files.Goals as goal

pub returns-clause-value : goal.returns-clause-value
returns-clause-value c =
    let p = c.in_ok-day.ensures.bytes in
    let r = rw (p.0, p.1) at c.byte_report.ensures.result in
    r ∙ files_passed (is_some c.args.day) (file_bytes c.args.day) (is_some c.args.batch) (file_bytes c.args.batch) (sym c.in_ok-day.ensures.verdict) c.args.memory.now c.requires

pub returns-clause-memory_after : goal.returns-clause-memory_after
returns-clause-memory_after c =
    let p = c.in_ok-day.ensures.bytes in
    let r = rw (p.0, p.1) at c.byte_report.ensures.result in
    let m = rw (p.0, p.1) at c.byte_report.ensures.memory in
    m ∙ opened_bytes (file_bytes c.args.day) (file_bytes c.args.batch) c.byte_report.result c.args.memory.now c.requires r
