use Rattle.std.proofs.Common.{rules, ◌≡◌, pos, length, sym, ap, ◌∙◌, arith, lt-ltb, le-ltb}
use Rattle.numbers.specs.Table.{entry, replicate_tabulate}
use Rattle.model.specs.Limits.{most_records}
use Rattle.model.specs.Netting.{net, dvp, position_count}
use Rattle.model.specs.Calls.{room_answer, written}
use Rattle.model.specs.Rewriting.{held_records, rewritten}
use Rattle.model.specs.RewritingChecks.{row32}
use Rattle.model.proofs.Verdicts.{tried-passed}
use Rattle.classes.specs.Checked.{checked_rows}
use Rattle.checked_nets.specs.Netted.{sums_check, nets_are, dvps_are, places_most, all_held, all_within}
use Rattle.checked_rewriting.specs.Stages.{sums_refused, space_refused, all_passed}
use Rattle.checked_rewriting.proofs.rewrite_checked.Goals as goal
use Rattle.checked_rewriting.proofs.rewrite_checked.Goals.{After-count_held-count}

pub net_checked-requires : goal.net_checked-requires
net_checked-requires c = record { rows = c.requires; nets_value = replicate_tabulate position_count (pos 0); dvps_value = replicate_tabulate position_count (pos 0) }

pub returns-in_err-net_checked-clause-value : goal.returns-in_err-net_checked-clause-value
returns-in_err-net_checked-clause-value c =
    let d = c.args.day.now.words.now in
    let b = c.args.batch.now.words.now in
    search rules ∙ sums_refused d b (length c.args.memory.now) c.in_err-net_checked.field-0.0 (sym c.net_checked.ensures.value ∙ c.in_err-net_checked.was)

pub new-positions-requires-clause-series_bound : goal.new-positions-requires-clause-series_bound
new-positions-requires-clause-series_bound c =
    let d = c.args.day.now.words.now in
    omega (arith, c.series_count.ensures, places_most d c.args.batch.now.words.now (checked_rows d c.args.day.now.checked) c.requires)

pub new-positions-requires-clause-all_held : goal.new-positions-requires-clause-all_held
new-positions-requires-clause-all_held c =
    let d = c.args.day.now.words.now in
    let b = c.args.batch.now.words.now in
    let n = nets_are b c.net_checked.new.nets c.net_checked.ensures.nets_after in
    let v = dvps_are b c.net_checked.new.dvps c.net_checked.ensures.dvps_after in
    rw (n, v, c.series_count.ensures) (all_held d b (checked_rows d c.args.day.now.checked) c.requires)

-- the positions are the batch's, and so is their count
module _ (c : After-count_held-count) where
  nets_is : entry c.new-positions.result.nets.now ≡ net c.args.batch.now.words.now
  nets_is = ap entry c.new-positions.ensures.0 ∙ nets_are c.args.batch.now.words.now c.net_checked.new.nets c.net_checked.ensures.nets_after

  dvps_is : entry c.new-positions.result.dvps.now ≡ dvp c.args.batch.now.words.now
  dvps_is = ap entry c.new-positions.ensures.1 ∙ dvps_are c.args.batch.now.words.now c.net_checked.new.dvps c.net_checked.ensures.dvps_after

  count_is : c.count_held-count.result ≡ length (held_records (net c.args.batch.now.words.now) (dvp c.args.batch.now.words.now))
  count_is = c.count_held-count.ensures ∙ (λ i. length (held_records (nets_is i) (dvps_is i)))

pub returns-then-count-gt-MOST_RECORDS-clause-value : goal.returns-then-count-gt-MOST_RECORDS-clause-value
unfolding row32
returns-then-count-gt-MOST_RECORDS-clause-value c =
    let d = c.args.day.now.words.now in
    let b = c.args.batch.now.words.now in
    let w = (goal.at.returns-then-count-gt-MOST_RECORDS-clause-value c).After-count_held-count in
    space_refused d b (length c.args.memory.now) (sym c.net_checked.ensures.value ∙ c.in_ok-net_checked.was)
    (lt-ltb most_records (length (held_records (net b) (dvp b))) (omega (arith, count_is w, c.if-count-gt-MOST_RECORDS.true)))

pub write_in_room-requires-clause-within : goal.write_in_room-requires-clause-within
unfolding sums_check
write_in_room-requires-clause-within c =
    let d = c.args.day.now.words.now in
    let b = c.args.batch.now.words.now in
    let w = (goal.at.write_in_room-requires-clause-within c).After-count_held-count in
    let sums = tried-passed _ (sym c.net_checked.ensures.value ∙ c.in_ok-net_checked.was) in
    rw (nets_is w, dvps_is w) (all_within d b (checked_rows d c.args.day.now.checked) c.requires sums.0 sums.1.0)

pub returns-clause-value : goal.returns-clause-value
unfolding row32
returns-clause-value c =
    let d = c.args.day.now.words.now in
    let b = c.args.batch.now.words.now in
    let m = c.args.memory.now in
    let w = (goal.at.returns-clause-value c).After-count_held-count in
    c.write_in_room.ensures.value
    ∙ (λ i. room_answer (length (rewritten (nets_is w i) (dvps_is w i))) (length m))
    ∙ all_passed d b (length m) (sym c.net_checked.ensures.value ∙ c.in_ok-net_checked.was)
    (le-ltb most_records (length (held_records (net b) (dvp b))) (omega (arith, count_is w, c.if-count-gt-MOST_RECORDS.false)))

pub returns-clause-memory_after : goal.returns-clause-memory_after
returns-clause-memory_after c =
    let w = (goal.at.returns-clause-memory_after c).After-count_held-count in
    c.write_in_room.ensures.memory_after ∙ (λ i. written c.write_in_room.result (rewritten (nets_is w i) (dvps_is w i)) c.args.memory.now)
