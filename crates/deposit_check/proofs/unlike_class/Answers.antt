use Rattle.std.specs.Prelude.{Some}
use Rattle.std.proofs.Common.{◌≡◌, ◌<◌, ℕ, List, eqb, ap, sym, ◌∙◌}
use Rattle.numbers.specs.Scan.{first_at}
use Rattle.model.specs.DayFile.{class_count, class_number, class_with, class_place}
use Rattle.model.specs.DepositChecks.{unlike, row51}
use Rattle.classes.specs.Checked.{checked_day}
use Rattle.deposit_check.specs.Unlike.{place_known, unlike-unknown}
use Rattle.deposit_check.proofs.unlike_class.Goals as goal

-- a class that is found is one of the day file's
inside : (d : List ℕ) (n : ℕ) {c : ℕ} → Some c ≡ class_with d n → c < class_count d
inside d n {c = c} q = (first_at (λ k. eqb (class_number d k) n) (class_count d) c (sym q)).0

pub unlike-requires : goal.unlike-requires
unlike-requires c = inside c.args.day.now.words.now c.number.result c.in-Some.ensures

pub returns-in-Some : goal.returns-in-Some
unfolding row51
returns-in-Some c =
    let d = c.args.day.now.words.now in
    c.unlike.ensures
    ∙ ap (unlike d) (place_known d c.number.result c.in-Some.c (sym c.in-Some.ensures))
    ∙ ap (λ (n : ℕ). unlike d (class_place d n)) c.number.ensures

pub returns-in-None : goal.returns-in-None
unfolding row51
returns-in-None c =
    let d = c.args.day.now.words.now in
    unlike-unknown d c.number.result (checked_day d c.args.day.now.checked).rows (sym c.in-None.ensures)
    ∙ ap (λ (n : ℕ). unlike d (class_place d n)) c.number.ensures
