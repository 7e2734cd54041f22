use Rattle.std.specs.Prelude.{unwrap_or}
use Rattle.std.proofs.Common.{◌≡◌, ◌∙◌, arith}
use Rattle.model.specs.DayFile.{class_count, class_with, series_class_number, series_class, found_class}
use Rattle.model.proofs.Together.{class_below}
use Rattle.classes.specs.Checked.{checked_rows}
use Rattle.classes.proofs.day.CheckedDay.class_of.Goals as goal

pub returns : goal.returns
unfolding series_class found_class
returns c =
    let d = c.args.self.now.words.now in
    let number = c.class_number.ensures ∙ (λ i. series_class_number (c.series.ensures.0 i) (c.series.ensures.1 i)) in
    let is : c.unwrap_or.result ≡ series_class d c.args.s =
    c.unwrap_or.ensures ∙ (λ i. unwrap_or (c.class_with.ensures i) (c.class_count.ensures i)) ∙ (λ i. unwrap_or (class_with d (number i)) (class_count d))
    in
    (is, omega (arith, is, class_below d (checked_rows d c.args.self.now.checked) c.args.s c.requires))
