use Rattle.std.proofs.Common.{ℕ, ◌+◌, arith, ap, ◌∙◌, get_or}
use Rattle.numbers.specs.Table.{get_or-tabulate}
use Rattle.classes.specs.Checked.{checked_day}
use Rattle.classes.specs.Range.{start_of, range}
use Rattle.classes.specs.Starts.{starts}
use Rattle.classes.proofs.day.CheckedDay.series_of.Goals as goal

pub bounds-self-c : goal.bounds-self-c
bounds-self-c c = let w = checked_day c.args.self.now.words.now c.args.self.now.checked in omega (arith, w.classes)

pub bounds-self-c-2 : goal.bounds-self-c-2
bounds-self-c-2 c = let w = checked_day c.args.self.now.words.now c.args.self.now.checked in omega (arith, w.classes)

pub returns : goal.returns
returns c =
    let d = c.args.self.now.words.now in
    let w = checked_day d c.args.self.now.checked in
    let at = λ (k : ℕ). get_or-tabulate starts (start_of d) k 0 in
    let from = ap (λ t. get_or t c.args.c 0) c.args.self.now.starts_value ∙ at c.args.c (omega (arith, w.classes)) in
    let to = ap (λ t. get_or t (c.args.c + 1) 0) c.args.self.now.starts_value ∙ at (c.args.c + 1) (omega (arith, w.classes)) in
    let r = range d w.rows c.args.c c.requires in
    record { range = (from, to); inside = (omega (arith, from, to, r.rising), omega (arith, to, r.end)) }
