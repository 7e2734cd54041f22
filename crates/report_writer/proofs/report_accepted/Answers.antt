use Rattle.std.specs.Prelude.{Ok}
use Rattle.holdings.specs.Seen.{day_of, net_of, dvp_of}
use Rattle.std.proofs.Common.{rules, ◌≡◌, length, ℕ, ◌++◌, ap, ◌∙◌, drop, sym}
use Rattle.model.specs.Calls.{room_answer}
use Rattle.model.specs.Report.{report_words, words_needed}
use Rattle.classes.specs.Tables.{entry}
use Rattle.report_writer.proofs.report_accepted.Goals as goal
use Rattle.report_writer.proofs.report_accepted.Goals.{After-check_room}
use Rattle.model.proofs.Length.{report-length}
use Rattle.model.proofs.Outcome.{outcome-report}
use Rattle.numbers.specs.Put.{put_front}
use Rattle.report_writer.specs.Whole.{needed_is}

-- the words needed are those of the report
room_is : (c : After-check_room) → c.check_room.result ≡ room_answer (words_needed (day_of c.args.of.now.after.now) (entry c.args.of.now.nets.now) (dvp_of c.args.of.now.after.now)) (length c.args.memory.now)
room_is c =
    let d = day_of c.args.of.now.after.now in
    let n = entry c.args.of.now.nets.now in
    let v = dvp_of c.args.of.now.after.now in
    c.check_room.ensures
    ∙ ap (λ (k : ℕ). room_answer k (length c.args.memory.now))
    (needed_is d n v c.line_count-count.result c.map_of.result c.map_of-2.result c.line_count-count.ensures.0 c.map_of.ensures.0 c.map_of-2.ensures.0)

pub returns-in_err-needed : goal.returns-in_err-needed
returns-in_err-needed c = record { value = search rules ∙ room_is (goal.at.returns-in_err-needed c).After-check_room; memory_after = search rules }

pub returns : goal.returns
returns c =
    let d = day_of c.args.of.now.after.now in
    let n = entry c.args.of.now.nets.now in
    let u = net_of c.args.of.now.after.now in
    let v = dvp_of c.args.of.now.after.now in
    let m = c.args.memory.now in
    let w = (goal.at.returns c).After-check_room in
    let passed = outcome-report (Ok tt) (words_needed d n v) (length m) c.in_ok-needed.needed (sym (room_is w) ∙ c.in_ok-needed.was) in
    record {
      value = sym c.in_ok-needed.was ∙ room_is w;
      memory_after = c.write_report.ensures ∙ put_front (report_words d n u v) m ∙ ap (λ (x : ℕ). report_words d n u v ++ drop x m) (report-length d n u v ∙ sym passed.1);
    }
