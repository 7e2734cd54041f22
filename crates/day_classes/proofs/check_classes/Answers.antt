use Rattle.std.proofs.Common.{rules}
use Rattle.model.specs.declared.Check.TheVariants.{Classes}
use Rattle.model.specs.declared.ClassFault.TheVariants.{ClassOrder, OffsetDiffers, PriceOrder}
use Rattle.model.specs.Rows.{tried}
use Rattle.model.specs.DayChecks.{row13, row18, class_check}
use Rattle.model.proofs.Verdicts.{verdicts}
use Rattle.day_classes.proofs.check_classes.Goals as goal

pub returns-in_err-check_records : goal.returns-in_err-check_records
unfolding class_check tried
returns-in_err-check_records c =
    let e1 = rw c.class_count-count.ensures at c.check_records.ensures (Classes ClassOrder) (row13 c.args.day.now.words.now) (λ i k p. search rules) (λ i v p. search rules) in
    search (verdicts, rules)

pub returns-in_err-check_row : goal.returns-in_err-check_row
unfolding class_check tried
returns-in_err-check_row c =
    let e1 = rw c.class_count-count.ensures at c.check_records.ensures (Classes ClassOrder) (row13 c.args.day.now.words.now) (λ i k p. search rules) (λ i v p. search rules) in
    let e2 = rw c.first_other_offset-unlike.ensures at c.check_row.ensures (Classes OffsetDiffers) (λ i k p. search rules) in
    search (verdicts, rules)

pub returns : goal.returns
unfolding class_check tried
returns c =
    let e1 = rw c.class_count-count.ensures at c.check_records.ensures (Classes ClassOrder) (row13 c.args.day.now.words.now) (λ i k p. search rules) (λ i v p. search rules) in
    let e2 = rw c.first_other_offset-unlike.ensures at c.check_row.ensures (Classes OffsetDiffers) (λ i k p. search rules) in
    let e3 = rw c.class_count-count.ensures at c.check_records-2.ensures (Classes PriceOrder) (row18 c.args.day.now.words.now) (λ i k p. search rules) (λ i v p. search rules) in
    search (verdicts, rules)
