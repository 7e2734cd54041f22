use Rattle.std.specs.Prelude.{None}
use Rattle.std.proofs.Common.{◌≡◌}
use Rattle.numbers.specs.Scan.{first_bad}
use Rattle.model.specs.Batch.{batch_words}
use Rattle.model.specs.BatchChecks.{row_of}
use Rattle.batch_words.proofs.first_in_batch.Given as goal

abbrev pub invariant-loop-r : goal.invariant-loop-r
invariant-loop-r l = first_bad (row_of l.row l.fn.batch) (batch_words l.r) ≡ None
