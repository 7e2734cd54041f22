use Rattle.std.proofs.Common.{rules}
use Rattle.accounts_check.proofs.Words.{words_summed}
use Rattle.accounts_check.proofs.sum.Goals as goal

pub returns : goal.returns
returns c = let e = words_summed c.args.lengths.now in search rules
