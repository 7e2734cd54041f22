use Rattle.classes.specs.Checked.{class_there}
use Rattle.classes.proofs.day.CheckedDay.class.Goals as goal

pub new-requires : goal.new-requires
new-requires c = class_there c.args.self.now.words.now c.args.c c.args.self.now.checked c.requires
