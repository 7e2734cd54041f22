use Rattle.std.proofs.Common.{◌≡◌}
use Rattle.std.specs.Prelude.{None}
use Rattle.model.specs.TextReading.{NumberRead, field_read}
use Rattle.text_parts.specs.ReadingSteps.{field_bound}
use Rattle.text_parts.proofs.fields.read_field.Goals as goal

pub returns-then-has_head : goal.returns-then-has_head
unfolding field_read
returns-then-has_head c =
    let t = c.args.text.now in
    let v : c.read_behind.result ≡ field_read t = rw (← c.has_head.ensures, c.if-has_head.true) c.read_behind.ensures in
    record { value = v; within = field_bound t _ v }

pub returns : goal.returns
unfolding field_read
returns c =
    let t = c.args.text.now in
    let v : ◌≡◌ {A = NumberRead} None (field_read t) = rw (← c.has_head.ensures, c.if-has_head.false) in
    record { value = v; within = tt }
