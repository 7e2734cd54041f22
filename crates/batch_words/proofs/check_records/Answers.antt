use Rattle.std.proofs.Common.{rules}
use Rattle.batch_words.proofs.check_records.Goals as goal
use Rattle.batch_words.specs.Clear.{words_pass}
use Rattle.numbers.specs.Scan.{first-front}
use Rattle.numbers.specs.Scan.{first_at}
use Rattle.std.proofs.Common.{sym}
use Rattle.std.proofs.Common.{◌∙◌}

pub check_rows-requires-clause-from_bound : goal.check_rows-requires-clause-from_bound
check_rows-requires-clause-from_bound c =
    let found = sym c.first_bad_record.ensures ∙ c.in-Some.is in
    let l = (first_at _ _ _ found).0 in
    let h = first-front _ _ _ found in
    search rules

pub check_rows-requires-clause-from_value : goal.check_rows-requires-clause-from_value
check_rows-requires-clause-from_value c =
    let found = sym c.first_bad_record.ensures ∙ c.in-Some.is in
    let l = (first_at _ _ _ found).0 in
    let h = first-front _ _ _ found in
    search rules

pub returns-in-None : goal.returns-in-None
returns-in-None c =
    let s = c.args in
    sym (words_pass s.batch.now s.count (sym c.first_bad_record.ensures ∙ c.in-None.is))
