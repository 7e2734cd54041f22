use Rattle.std.proofs.Common.{rules, length, sym, ◌∙◌}
use Rattle.byte_check.specs.Rows.{passed-short}
use Rattle.byte_report.specs.Bytes.{bytes_of, bytes_refused, words_answer}
use Rattle.byte_report.proofs.byte_report.Goals as goal

pub returns-in_err-check_bytes : goal.returns-in_err-check_bytes
returns-in_err-check_bytes c =
    let e = bytes_refused c.args.day.now c.args.batch.now (length c.args.memory.now) _ (sym c.in_err-check_bytes.ensures) in
    let f = bytes_of c.args.day.now c.args.batch.now c.args.memory.now _ e in
    record { result = search rules; memory = f }

pub report_bytes-requires : goal.report_bytes-requires
report_bytes-requires c = passed-short c.args.day.now c.args.batch.now (sym c.in_ok-check_bytes.ensures)

pub returns : goal.returns
returns c =
    let e = c.report_bytes.ensures.value ∙ words_answer c.args.day.now c.args.batch.now (length c.args.memory.now) (sym c.in_ok-check_bytes.ensures) in
    record { result = e; memory = c.report_bytes.ensures.memory_after ∙ bytes_of c.args.day.now c.args.batch.now c.args.memory.now c.report_bytes.result e }
