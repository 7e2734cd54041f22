-- What a contract sees of an account: the day file's words, the nets before cover. And what its deposits are.
use Rattle.std.specs.Prelude.{ℕ, ℤ, List}
use Rattle.classes.specs.Checked.{passed}
use Rattle.holdings.specs.Seen.{day_of, net_of}
use Rattle.model.proofs.Accepted.{DepositRows, deposit_checked}
use Rattle.cover.specs.declared.account.Account.{Account}

abbrev pub account_day : Account → List ℕ
account_day a = day_of a.holdings.now

abbrev pub account_net : Account → ℕ → ℤ
account_net a = net_of a.holdings.now

pub deposit_rows : (a : Account) → DepositRows (account_day a) a.deposits.now
deposit_rows a = deposit_checked (account_day a) a.deposits.now (passed _ a.checked)
