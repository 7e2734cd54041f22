use Rattle.classes.specs.Checked.{series_there}
use Rattle.classes.proofs.day.CheckedDay.series.Goals as goal

pub new-requires : goal.new-requires
new-requires c = series_there c.args.self.now.words.now c.args.s c.args.self.now.checked c.requires
