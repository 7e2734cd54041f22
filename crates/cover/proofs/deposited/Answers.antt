use Rattle.std.proofs.Common.{rules, refl, ◌∙◌, ap, sym, arith, eqb-true}
use Rattle.classes.specs.Checked.{checked_rows}
use Rattle.cover.specs.Accounts.{deposit_rows}
use Rattle.holdings.specs.Seen.{day_of}
use Rattle.cover.proofs.deposited.Goals as goal
use Rattle.cover.specs.Deposited.{deposit_hit, deposit_none, names}
use Rattle.model.specs.DayFile.{class_number}
use Rattle.model.specs.Deposits.{named_number, shares}
use Rattle.numbers.specs.Finding.{find_below}
use Rattle.numbers.specs.Scan.{first_bad, first_at}

pub returns-in-Some : goal.returns-in-Some
returns-in-Some c =
    let d = day_of c.args.account.now.holdings.now in
    let x = c.args.account.now.deposits.now in
    let i = c.in-Some.i in
    let found = find_below _ (names d x c.args.c) c.find.ensures.ran (λ x v q k. search rules) refl in
    let hit = first_at (names d x c.args.c) c.deposit_count.result i (sym found ∙ c.in-Some.is) in
    c.from.ensures ∙ c.shares.ensures ∙ (λ j. shares (c.new.ensures.0 j) (c.new.ensures.1 j))
    ∙ deposit_hit d x (deposit_rows c.args.account.now) (checked_rows d c.args.account.now.holdings.now.day.now.checked) c.args.c c.requires i (omega (arith, hit.0, c.deposit_count.ensures))
    (eqb-true (named_number x i) (class_number d c.args.c) hit.1)

pub returns-in-None : goal.returns-in-None
returns-in-None c =
    let d = day_of c.args.account.now.holdings.now in
    let x = c.args.account.now.deposits.now in
    let found = find_below _ (names d x c.args.c) c.find.ensures.ran (λ x v q k. search rules) refl in
    deposit_none d x (deposit_rows c.args.account.now) (checked_rows d c.args.account.now.holdings.now.day.now.checked) c.args.c c.requires
    (ap (first_bad (names d x c.args.c)) (sym c.deposit_count.ensures) ∙ sym found ∙ c.in-None.is)
