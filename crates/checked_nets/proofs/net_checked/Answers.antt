use Rattle.classes.specs.Checked.{checked_rows}
use Rattle.net_check.specs.Sizes.{placed}
use Rattle.checked_nets.proofs.net_checked.Goals as goal

pub check_nets-requires-clause-placed : goal.check_nets-requires-clause-placed
check_nets-requires-clause-placed c =
    placed c.args.day.now.words.now c.args.batch.now.words.now (checked_rows c.args.day.now.words.now c.args.day.now.checked) c.requires.rows
