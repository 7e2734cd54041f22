use Rattle.std.specs.Prelude.{Ok}
use Rattle.std.proofs.Common.{rules, ◌≡◌, ◌<◌, ◌-◌, ℕ, length, sym, ap, ◌∙◌, arith}
use Rattle.model.specs.Words.{payload}
use Rattle.model.specs.Batch.{batch_header, batch_words}
use Rattle.model.specs.Calls.{written}
use Rattle.model.specs.Cents.{from_cents, cents_bit}
use Rattle.model.specs.CentsChecks.{from_cents_check}
use Rattle.model.specs.CentsCalls.{from_cents_answer, from_cents_after}
use Rattle.model.proofs.Cents.{converted_headed, header_from}
use Rattle.cents.specs.Converted.{amount_in, batch_in}
use Rattle.cents.specs.Stages.{whole_from, small_from, refused, answered, leaves}
use Rattle.cents.proofs.from_cents.Goals as goal
use Rattle.cents.specs.declared.Edition.TheVariants.{Units}
use Rattle.cents.proofs.from_cents.Goals.{After-write_in_room, In_ok-check_from_cents, After-payload}

ok : (c : In_ok-check_from_cents) → from_cents_check c.args.batch.now ≡ Ok tt
ok c = sym c.check_from_cents.ensures ∙ c.in_ok-check_from_cents.was

pub returns-in_err-check_from_cents-clause-result : goal.returns-in_err-check_from_cents-clause-result
unfolding from_cents_answer
returns-in_err-check_from_cents-clause-result c =
    let b = c.args.batch.now in
    search rules
    ∙ refused (from_cents_check b) (length (from_cents b)) (length c.args.memory.now) c.in_err-check_from_cents.field-0.0 (sym c.check_from_cents.ensures ∙ c.in_err-check_from_cents.was)

pub returns-in_err-check_from_cents-clause-memory : goal.returns-in_err-check_from_cents-clause-memory
unfolding from_cents_after from_cents_answer
returns-in_err-check_from_cents-clause-memory c =
    let b = c.args.batch.now in
    let m = c.args.memory.now in
    ap (λ a. written a (from_cents b) m)
    (refused (from_cents_check b) (length (from_cents b)) (length m) c.in_err-check_from_cents.field-0.0 (sym c.check_from_cents.ensures ∙ c.in_err-check_from_cents.was))

pub overflow_sub-header : goal.overflow_sub-header
overflow_sub-header c = omega (arith, c.batch_header-header.ensures, header_from c.args.batch.now (ok (goal.at.overflow_sub-header c).In_ok-check_from_cents))

-- the count of the records behind the header without the bit
count_is : (c : After-payload) → c.payload.result ≡ payload (batch_header c.args.batch.now - cents_bit)
count_is c = c.payload.ensures ∙ ap (λ (h : ℕ). payload (h - cents_bit)) c.batch_header-header.ensures

pub write_in_room-requires-clause-whole : goal.write_in_room-requires-clause-whole
write_in_room-requires-clause-whole c =
    let b = c.args.batch.now in
    whole_from b (ok (goal.at.write_in_room-requires-clause-whole c).In_ok-check_from_cents) ∙ ap batch_words (sym (count_is (goal.at.write_in_room-requires-clause-whole c).After-payload))

pub write_in_room-requires-clause-amounts : goal.write_in_room-requires-clause-amounts
write_in_room-requires-clause-amounts c =
    let b = c.args.batch.now in
    rw (count_is (goal.at.write_in_room-requires-clause-amounts c).After-payload) (small_from b (ok (goal.at.write_in_room-requires-clause-amounts c).In_ok-check_from_cents))

-- the words written
words : (c : After-write_in_room) → batch_in Units c.args.batch.now (c.batch_header-header.result - cents_bit) c.payload.result ≡ from_cents c.args.batch.now
words c =
    let b = c.args.batch.now in
    let filled : 0 < length b = omega (arith, whole_from b (sym c.check_from_cents.ensures ∙ c.in_ok-check_from_cents.was)) in
    ap (batch_in Units b (c.batch_header-header.result - cents_bit)) c.payload.ensures
    ∙ ap (λ (h : ℕ). batch_in Units b (h - cents_bit) (payload (h - cents_bit))) c.batch_header-header.ensures
    ∙ sym (converted_headed (amount_in Units) b (batch_header b - cents_bit) filled)

pub returns-clause-result : goal.returns-clause-result
unfolding from_cents_answer
returns-clause-result c =
    let b = c.args.batch.now in
    answered (from_cents_check b) (from_cents b) _ c.args.memory.now (ok (goal.at.returns-clause-result c).In_ok-check_from_cents) (words (goal.at.returns-clause-result c).After-write_in_room) _
    c.write_in_room.ensures.value

pub returns-clause-memory : goal.returns-clause-memory
unfolding from_cents_after from_cents_answer
returns-clause-memory c =
    let b = c.args.batch.now in
    c.write_in_room.ensures.memory_after
    ∙ leaves (from_cents_check b) (from_cents b) _ c.args.memory.now (ok (goal.at.returns-clause-memory c).In_ok-check_from_cents) (words (goal.at.returns-clause-memory c).After-write_in_room) _
    c.write_in_room.ensures.value
