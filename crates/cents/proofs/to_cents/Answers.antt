use Rattle.std.specs.Prelude.{Ok}
use Rattle.std.proofs.Common.{rules, ◌≡◌, ◌+◌, length, sym, ap, ◌∙◌, arith}
use Rattle.model.specs.Calls.{written}
use Rattle.model.specs.Cents.{to_cents, cents_bit}
use Rattle.model.specs.CentsChecks.{to_cents_check}
use Rattle.model.specs.CentsCalls.{to_cents_answer, to_cents_after}
use Rattle.model.proofs.Cents.{converted_marked}
use Rattle.cents.specs.Converted.{amount_in, batch_in}
use Rattle.cents.specs.Stages.{whole_to, header_to, refused, answered, leaves}
use Rattle.cents.proofs.to_cents.Goals as goal
use Rattle.cents.specs.declared.Edition.TheVariants.{Cents}
use Rattle.cents.proofs.to_cents.Goals.{After-write_in_room, In_ok-check_to_cents}

ok : (c : In_ok-check_to_cents) → to_cents_check c.args.batch.now ≡ Ok tt
ok c = sym c.check_to_cents.ensures ∙ c.in_ok-check_to_cents.was

pub returns-in_err-check_to_cents-clause-result : goal.returns-in_err-check_to_cents-clause-result
unfolding to_cents_answer
returns-in_err-check_to_cents-clause-result c =
    let b = c.args.batch.now in
    search rules ∙ refused (to_cents_check b) (length (to_cents b)) (length c.args.memory.now) c.in_err-check_to_cents.field-0.0 (sym c.check_to_cents.ensures ∙ c.in_err-check_to_cents.was)

pub returns-in_err-check_to_cents-clause-memory : goal.returns-in_err-check_to_cents-clause-memory
unfolding to_cents_after to_cents_answer
returns-in_err-check_to_cents-clause-memory c =
    let b = c.args.batch.now in
    let m = c.args.memory.now in
    ap (λ a. written a (to_cents b) m)
    (refused (to_cents_check b) (length (to_cents b)) (length m) c.in_err-check_to_cents.field-0.0 (sym c.check_to_cents.ensures ∙ c.in_err-check_to_cents.was))

pub overflow_add-batch_header : goal.overflow_add-batch_header
overflow_add-batch_header c = record { fits = omega (arith, c.batch_header.ensures, c.batch_header.type_inv, header_to c.args.batch.now (ok (goal.at.overflow_add-batch_header c).In_ok-check_to_cents)) }

pub write_in_room-requires-clause-whole : goal.write_in_room-requires-clause-whole
write_in_room-requires-clause-whole c =
    omega (arith, c.record_count.ensures, whole_to c.args.batch.now (ok (goal.at.write_in_room-requires-clause-whole c).In_ok-check_to_cents))

-- the words written
words : (c : After-write_in_room) → batch_in Cents c.args.batch.now (c.batch_header.result + cents_bit) c.record_count.result ≡ to_cents c.args.batch.now
words c = (λ i. batch_in Cents c.args.batch.now (c.batch_header.ensures i + cents_bit) (c.record_count.ensures i)) ∙ sym (converted_marked (amount_in Cents) c.args.batch.now)

pub returns-clause-result : goal.returns-clause-result
unfolding to_cents_answer
returns-clause-result c =
    let b = c.args.batch.now in
    answered (to_cents_check b) (to_cents b) _ c.args.memory.now (ok (goal.at.returns-clause-result c).In_ok-check_to_cents) (words (goal.at.returns-clause-result c).After-write_in_room) _
    c.write_in_room.ensures.value

pub returns-clause-memory : goal.returns-clause-memory
unfolding to_cents_after to_cents_answer
returns-clause-memory c =
    let b = c.args.batch.now in
    c.write_in_room.ensures.memory_after
    ∙ leaves (to_cents_check b) (to_cents b) _ c.args.memory.now (ok (goal.at.returns-clause-memory c).In_ok-check_to_cents) (words (goal.at.returns-clause-memory c).After-write_in_room) _
    c.write_in_room.ensures.value
