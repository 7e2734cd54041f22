use Rattle.std.proofs.Common.{rules, refl}
use Rattle.std.proofs.lemmas.Iterator.{serves_from_Range}
use Rattle.numbers.specs.Finding.{find_below}
use Rattle.rows.proofs.check_records.Goals as goal

pub find-found-requires-clause-callable : goal.find-found-requires-clause-callable
find-found-requires-clause-callable g c = serves_from_Range (λ x q k. search rules) (λ x l h y e. rw e (c.requires.can_test x h))

pub returns : goal.returns
returns g c k t p q =
    let found = find_below _ t c.find-found.ensures.ran (λ x v s h. search rules) refl in
    rw found at c.check_row.ensures k p
