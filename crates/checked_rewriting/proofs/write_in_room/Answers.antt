use Rattle.std.specs.Prelude.{Ok}
use Rattle.std.proofs.Common.{rules, ◌≡◌, ◌≤◌, ℕ, ◌++◌, length, drop, sym, ap, ◌∙◌, arith}
use Rattle.numbers.specs.Table.{entry}
use Rattle.model.specs.Batch.{batch_words}
use Rattle.model.specs.Calls.{room_answer}
use Rattle.model.specs.Rewriting.{rewritten}
use Rattle.model.proofs.HeldRecords.{held_most, rewritten_length}
use Rattle.model.proofs.Outcome.{outcome-report}
use Rattle.checked_rewriting.proofs.write_in_room.Goals as goal
use Rattle.checked_rewriting.proofs.write_in_room.Goals.{After-check_room}

pub overflow_mul-count : goal.overflow_mul-count
overflow_mul-count c = record { fits = omega (arith, c.requires.count_value, held_most (entry c.args.positions.now.nets.now) (entry c.args.positions.now.dvps.now)) }

pub overflow_add-count : goal.overflow_add-count
overflow_add-count c = record { fits = omega (arith, c.requires.count_value, held_most (entry c.args.positions.now.nets.now) (entry c.args.positions.now.dvps.now)) }

-- the words needed are those of the rewriting
needed_is : (c : After-check_room) → c.check_room.result ≡ room_answer (length (rewritten (entry c.args.positions.now.nets.now) (entry c.args.positions.now.dvps.now))) (length c.args.memory.now)
needed_is c =
    let n = entry c.args.positions.now.nets.now in
    let v = entry c.args.positions.now.dvps.now in
    c.check_room.ensures
    ∙ ap (λ (j : ℕ). room_answer j (length c.args.memory.now)) (ap batch_words c.requires.count_value ∙ sym (rewritten_length n v))

-- .. and there is room for them
passed : (c : After-check_room) (k : ℕ) → c.check_room.result ≡ Ok k
    → (k ≡ length (rewritten (entry c.args.positions.now.nets.now) (entry c.args.positions.now.dvps.now)))
    × (length (rewritten (entry c.args.positions.now.nets.now) (entry c.args.positions.now.dvps.now)) ≤ length c.args.memory.now)
passed c k e =
    let r = outcome-report (Ok tt) (length (rewritten (entry c.args.positions.now.nets.now) (entry c.args.positions.now.dvps.now))) (length c.args.memory.now) k (sym (needed_is c) ∙ e) in
    (r.1, r.2)

pub returns-in_err-needed-clause-value : goal.returns-in_err-needed-clause-value
returns-in_err-needed-clause-value c = search rules ∙ needed_is (goal.at.returns-in_err-needed-clause-value c).After-check_room

pub write-requires-clause-room : goal.write-requires-clause-room
write-requires-clause-room c = (passed (goal.at.write-requires-clause-room c).After-check_room c.in_ok-needed.needed c.in_ok-needed.was).1

pub returns-clause-value : goal.returns-clause-value
returns-clause-value c = sym c.in_ok-needed.was ∙ needed_is (goal.at.returns-clause-value c).After-check_room

pub returns-clause-memory_after : goal.returns-clause-memory_after
returns-clause-memory_after c =
    let n = entry c.args.positions.now.nets.now in
    let v = entry c.args.positions.now.dvps.now in
    c.write.ensures
    ∙ ap (λ (k : ℕ). rewritten n v ++ drop k c.args.memory.now) (sym (passed (goal.at.returns-clause-memory_after c).After-check_room c.in_ok-needed.needed c.in_ok-needed.was).0)
