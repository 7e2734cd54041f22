use Rattle.std.proofs.Common.{sym}
use Rattle.classes.specs.Checked.{checked_day}
use Rattle.classes.specs.Range.{range}
use Rattle.deposit_check.specs.Unlike.{unlike-none}
use Rattle.deposit_check.proofs.unlike.Goals as goal

pub returns-in-None : goal.returns-in-None
returns-in-None c =
    let d = c.args.day.now.words.now in
    unlike-none d c.args.c _ _ (range d (checked_day d c.args.day.now.checked).rows c.args.c c.requires) (sym c.in-None.ensures)
