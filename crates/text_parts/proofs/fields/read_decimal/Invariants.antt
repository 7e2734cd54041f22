use Rattle.std.proofs.Common.{◌≡◌, ◌≤◌, drop, ◌<◌, ◌^◌}
use Rattle.model.specs.TextReading.{decimal_read, digits_read}
use Rattle.text_parts.proofs.fields.read_decimal.Given as goal

abbrev pub invariant-loop-k : goal.invariant-loop-k
invariant-loop-k l = (l.k ≤ 19) × (l.n < 10 ^ l.k) × (decimal_read l.text ≡ digits_read l.n l.k (drop l.k l.text))
