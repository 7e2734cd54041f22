use Rattle.std.specs.Prelude.{Ok}
use Rattle.std.proofs.Common.{rules, ◌≡◌, ◌≤◌, ℕ, ◌++◌, length, drop, sym, ap, ◌∙◌, arith}
use Rattle.numbers.specs.Put.{put_front}
use Rattle.model.specs.Calls.{room_answer}
use Rattle.model.proofs.Outcome.{outcome-report}
use Rattle.model.proofs.Cents.{converted_length}
use Rattle.cents.specs.Converted.{amount_in, batch_in}
use Rattle.cents.proofs.write_in_room.Goals as goal
use Rattle.cents.proofs.write_in_room.Goals.{After-check_room}

module _ (c : After-check_room) where
  -- the batch converted, and its length
  abbrev words : ℕ
  words = length (batch_in c.args.edition c.args.batch.now c.args.header c.args.count)

  needed_is : c.check_room.result ≡ room_answer words (length c.args.memory.now)
  needed_is =
      c.check_room.ensures
      ∙ ap (λ (n : ℕ). room_answer n (length c.args.memory.now)) (c.requires.whole ∙ sym (converted_length (amount_in c.args.edition) c.args.batch.now c.args.header c.args.count))

  -- there is room for it
  passed : (k : ℕ) → c.check_room.result ≡ Ok k → (k ≡ words) × (words ≤ length c.args.memory.now)
  passed k e = let r = outcome-report (Ok tt) words (length c.args.memory.now) k (sym needed_is ∙ e) in (r.1, r.2)

pub returns-in_err-needed-clause-value : goal.returns-in_err-needed-clause-value
returns-in_err-needed-clause-value c = search rules ∙ needed_is (goal.at.returns-in_err-needed-clause-value c).After-check_room

pub write_converted-requires-clause-room : goal.write_converted-requires-clause-room
write_converted-requires-clause-room c =
    let p = passed (goal.at.write_converted-requires-clause-room c).After-check_room c.in_ok-needed.needed c.in_ok-needed.was in
    omega (arith, p.1, converted_length (amount_in c.args.edition) c.args.batch.now c.args.header c.args.count)

pub returns-clause-value : goal.returns-clause-value
returns-clause-value c = sym c.in_ok-needed.was ∙ needed_is (goal.at.returns-clause-value c).After-check_room

pub returns-clause-memory_after : goal.returns-clause-memory_after
returns-clause-memory_after c =
    let w = batch_in c.args.edition c.args.batch.now c.args.header c.args.count in
    let m = c.args.memory.now in
    c.write_converted.ensures
    ∙ put_front w m
    ∙ ap (λ (k : ℕ). w ++ drop k m) (sym (passed (goal.at.returns-clause-memory_after c).After-check_room c.in_ok-needed.needed c.in_ok-needed.was).0)
