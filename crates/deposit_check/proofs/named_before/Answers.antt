use Rattle.std.proofs.Common.{rules, refl, eqb}
use Rattle.numbers.specs.Finding.{any_in}
use Rattle.model.specs.Deposits.{named_number}
use Rattle.deposit_check.proofs.named_before.Goals as goal

pub returns : goal.returns
returns c =
    let d = c.args.deposit.now in
    any_in _ (λ j. eqb (named_number d.deposits.now j) (named_number d.deposits.now d.index)) c.any.ensures.ran (λ x v q k. search rules) refl
