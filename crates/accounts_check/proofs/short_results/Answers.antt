use Rattle.model.specs.ManyAccounts.{row61}
use Rattle.accounts_check.proofs.short_results.Goals as goal
use Rattle.std.proofs.Common.{refl}

pub returns : goal.returns
unfolding row61
returns c = refl
