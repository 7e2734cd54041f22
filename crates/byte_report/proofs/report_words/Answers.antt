use Rattle.std.specs.Prelude.{Ok}
use Rattle.std.proofs.Common.{rules, ◌≡◌, [], ◌*◌, ◌≤◌, length, take, ℕ, List, ◌++◌, sym, ◌∙◌, arith, ap, drop}
use Rattle.numbers.specs.Put.{put, put_front}
use Rattle.model.specs.Bytes.{bytes_of}
use Rattle.model.specs.Calls.{answer, report}
use Rattle.byte_room.specs.Room.{room_fits}
use Rattle.byte_words.specs.Words.{bytes_length}
use Rattle.byte_report.specs.Room.{answer_fits, answer_room, report-front}
use Rattle.byte_report.proofs.report_words.Goals as goal

pub returns-in_err-n-clause-value : goal.returns-in_err-n-clause-value
returns-in_err-n-clause-value c =
    let d = c.args.day.now in
    let b = c.args.batch.now in
    let e = c.in_err-n.ensures.result ∙ ap (answer d b []) c.requires ∙ answer_room d b [] (length c.args.memory.now) in
    search rules

pub encode_front-requires : goal.encode_front-requires
encode_front-requires c =
    let fits : (c.in_ok-n.n ≤ length c.args.words.now) × (c.in_ok-n.n ≡ length (report c.args.day.now c.args.batch.now [])) = answer_fits _ _ _ _ _ (sym c.in_ok-n.ensures.result) in
    (omega (arith, fits.0, c.report.auto.memory), omega (arith, fits.0, c.requires, room_fits (length c.args.memory.now)))

pub returns-clause-value : goal.returns-clause-value
returns-clause-value c =
    let d = c.args.day.now in
    let b = c.args.batch.now in
    c.in_ok-n.ensures.result ∙ ap (answer d b []) c.requires ∙ answer_room d b [] (length c.args.memory.now)

pub returns-clause-memory_after : goal.returns-clause-memory_after
returns-clause-memory_after c =
    let d = c.args.day.now in
    let b = c.args.batch.now in
    let m = c.args.memory.now in
    let n = c.in_ok-n.n in
    let w = c.args.words.now in
    let r = report d b [] in
    let reported : answer d b [] (length w) ≡ Ok n = sym c.in_ok-n.ensures.result in
    c.encode_front.ensures
    ∙ ap (λ (x : List ℕ). put 0 (bytes_of x) m) (ap (take n) c.report.ensures.memory ∙ report-front d b [] w n reported)
    ∙ put_front (bytes_of r) m
    ∙ ap (λ (x : ℕ). bytes_of r ++ drop x m) (bytes_length r ∙ ap (λ (x : ℕ). 4 * x) (sym (answer_fits d b [] _ n reported).1))
