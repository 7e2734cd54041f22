use Rattle.model.proofs.Accepted.{day_checked}
use Rattle.classes.proofs.day.CheckedDay.new.Goals as goal

pub starts-starts-requires : goal.starts-starts-requires
starts-starts-requires c = day_checked c.args.words.now c.requires
