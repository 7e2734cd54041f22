use Rattle.std.proofs.Common.{rules}
use Rattle.batch_words.proofs.first_in_batch.Goals as goal
use Rattle.batch_words.specs.Scan.{records}

pub returns-in-Some : goal.returns-in-Some
returns-in-Some c =
    let e = rw (c.new.ensures.0, c.new.ensures.1) at c.first_in_record.ensures in
    search (records, rules)
