use Rattle.std.proofs.Common.{length}
use Rattle.model.specs.Limits.{most_accounts}
use Rattle.model.specs.ManyAccounts.{row60}
use Rattle.accounts_check.proofs.bad_lengths.Goals as goal
use borrow.Author.Tests.{le-ltb, lt-ltb}

pub returns-then-lengths-gt-MOST_ACCOUNTS : goal.returns-then-lengths-gt-MOST_ACCOUNTS
unfolding row60
returns-then-lengths-gt-MOST_ACCOUNTS c = rw (lt-ltb most_accounts (length c.args.lengths.now) c.if-lengths-gt-MOST_ACCOUNTS.true)

pub returns-else-lengths-gt-MOST_ACCOUNTS : goal.returns-else-lengths-gt-MOST_ACCOUNTS
unfolding row60
returns-else-lengths-gt-MOST_ACCOUNTS c = rw (le-ltb most_accounts (length c.args.lengths.now) c.if-lengths-gt-MOST_ACCOUNTS.false, c.sum.ensures)
