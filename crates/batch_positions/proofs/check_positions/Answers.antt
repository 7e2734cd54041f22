use Rattle.std.proofs.Common.{rules}
use Rattle.model.specs.declared.Check.TheVariants.{Positions}
use Rattle.model.specs.declared.PositionFault.TheVariants.{SeriesAbsent, ExercisedNonOption, FailNonSecurity, DvpNonSecurity}
use Rattle.model.specs.Rows.{tried}
use Rattle.model.specs.BatchChecks.{row23, row24, row25, row26, position_check}
use Rattle.model.proofs.Verdicts.{verdicts}
use Rattle.batch_positions.proofs.check_positions.Goals as goal

pub returns-in_err-check_records : goal.returns-in_err-check_records
unfolding position_check tried
returns-in_err-check_records c =
    let a = c.args in
    let e1 = rw c.record_count-count.ensures at c.check_records.ensures (Positions SeriesAbsent) (row23 a.day.now a.batch.now.words.now) (λ i k p. search rules) (λ i v p. search rules) in
    search (verdicts, rules)

pub returns-in_err-check_records-2 : goal.returns-in_err-check_records-2
unfolding position_check tried
returns-in_err-check_records-2 c =
    let a = c.args in
    let e1 = rw c.record_count-count.ensures at c.check_records.ensures (Positions SeriesAbsent) (row23 a.day.now a.batch.now.words.now) (λ i k p. search rules) (λ i v p. search rules) in
    let e2 = rw c.record_count-count.ensures at c.check_records-2.ensures (Positions ExercisedNonOption) (row24 a.day.now a.batch.now.words.now) (λ i k p. search rules) (λ i v p. search rules) in
    search (verdicts, rules)

pub returns-in_err-check_records-3 : goal.returns-in_err-check_records-3
unfolding position_check tried
returns-in_err-check_records-3 c =
    let a = c.args in
    let e1 = rw c.record_count-count.ensures at c.check_records.ensures (Positions SeriesAbsent) (row23 a.day.now a.batch.now.words.now) (λ i k p. search rules) (λ i v p. search rules) in
    let e2 = rw c.record_count-count.ensures at c.check_records-2.ensures (Positions ExercisedNonOption) (row24 a.day.now a.batch.now.words.now) (λ i k p. search rules) (λ i v p. search rules) in
    let e3 = rw c.record_count-count.ensures at c.check_records-3.ensures (Positions FailNonSecurity) (row25 a.day.now a.batch.now.words.now) (λ i k p. search rules) (λ i v p. search rules) in
    search (verdicts, rules)

pub returns : goal.returns
unfolding position_check tried
returns c =
    let a = c.args in
    let e1 = rw c.record_count-count.ensures at c.check_records.ensures (Positions SeriesAbsent) (row23 a.day.now a.batch.now.words.now) (λ i k p. search rules) (λ i v p. search rules) in
    let e2 = rw c.record_count-count.ensures at c.check_records-2.ensures (Positions ExercisedNonOption) (row24 a.day.now a.batch.now.words.now) (λ i k p. search rules) (λ i v p. search rules) in
    let e3 = rw c.record_count-count.ensures at c.check_records-3.ensures (Positions FailNonSecurity) (row25 a.day.now a.batch.now.words.now) (λ i k p. search rules) (λ i v p. search rules) in
    let e4 = rw c.record_count-count.ensures at c.check_records-4.ensures (Positions DvpNonSecurity) (row26 a.day.now a.batch.now.words.now) (λ i k p. search rules) (λ i v p. search rules) in
    search (verdicts, rules)
