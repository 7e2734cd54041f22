use Rattle.std.proofs.Common.{rules}
use Rattle.model.specs.declared.Check.TheVariants.{Series}
use Rattle.model.specs.declared.SeriesFault.TheVariants.{ClassAbsent, SeriesOrder, BadType}
use Rattle.model.specs.Rows.{tried}
use Rattle.model.specs.DayChecks.{row15, row16, row17, series_check}
use Rattle.model.proofs.Verdicts.{verdicts}
use Rattle.day_series.proofs.check_series.Goals as goal

pub returns-in_err-check_records : goal.returns-in_err-check_records
unfolding series_check tried
returns-in_err-check_records c =
    let d = c.args.day.now.words.now in
    let e1 = rw c.series_count-count.ensures at c.check_records.ensures (Series ClassAbsent) (row15 d) (λ i k p. search rules) (λ i v p. search rules) in
    search (verdicts, rules)

pub returns-in_err-check_records-2 : goal.returns-in_err-check_records-2
unfolding series_check tried
returns-in_err-check_records-2 c =
    let d = c.args.day.now.words.now in
    let e1 = rw c.series_count-count.ensures at c.check_records.ensures (Series ClassAbsent) (row15 d) (λ i k p. search rules) (λ i v p. search rules) in
    let e2 = rw c.series_count-count.ensures at c.check_records-2.ensures (Series SeriesOrder) (row16 d) (λ i k p. search rules) (λ i v p. search rules) in
    search (verdicts, rules)

pub returns : goal.returns
unfolding series_check tried
returns c =
    let d = c.args.day.now.words.now in
    let e1 = rw c.series_count-count.ensures at c.check_records.ensures (Series ClassAbsent) (row15 d) (λ i k p. search rules) (λ i v p. search rules) in
    let e2 = rw c.series_count-count.ensures at c.check_records-2.ensures (Series SeriesOrder) (row16 d) (λ i k p. search rules) (λ i v p. search rules) in
    let e3 = rw c.series_count-count.ensures at c.check_records-3.ensures (Series BadType) (row17 d) (λ i k p. search rules) (λ i v p. search rules) in
    search (verdicts, rules)
