use Rattle.std.proofs.lemmas.Nat.{ones-le}
use Rattle.std.proofs.Common.{arith}
use Rattle.model.specs.Limits.{group_count}
use Rattle.report_head.proofs.Maps.line_count.Goals as goal
use Rattle.std.proofs.Common.{refl}

pub returns : goal.returns
returns c = (refl, omega (arith, ones-le group_count c.args.self.ordinary c.args.self.small.0, ones-le group_count c.args.self.fail c.args.self.small.1))
