use Rattle.std.proofs.Common.{rules, refl, eqb}
use Rattle.numbers.specs.Finding.{find_below}
use Rattle.model.specs.DayFile.{class_number}
use Rattle.classes.proofs.day.CheckedDay.class_with.Goals as goal

pub returns : goal.returns
returns c =
    let d = c.args.self.now.words.now in
    rw (find_below _ (λ k. eqb (class_number d k) c.args.n) c.find.ensures.ran (λ x v q k. search rules) refl, c.class_count.ensures)
