use Rattle.std.proofs.Common.{rules, ℕ, pos, get_or, ◌∙◌, to_z-of_z}
use Rattle.std.specs.Int.{w64, int_max}
use Rattle.numbers.specs.Abs.{told}
use Rattle.numbers.specs.Extremes.{largest}
use Rattle.numbers.specs.Machine.{max_is}
use Rattle.additional.specs.Largest.{largest-none, largest_more}
use Rattle.additional.proofs.largest.Goals as goal

pub loop-amount-init : goal.loop-amount-init
loop-amount-init c = largest-none (λ j. get_or c.args.points.at j (pos 0))

pub loop-amount-preserved : goal.loop-amount-preserved
loop-amount-preserved c =
    let k = c.loop-amount.amount-index in
    let f = λ (j : ℕ). get_or c.args.points.at j (pos 0) in
    told c.max-most.type_inv
    (c.max-most.ensures.value
    ∙ (λ i. int_max (c.loop-amount.invariant i) (to_z-of_z {w = w64} {z = f k} (search rules) i))
    ∙ max_is (largest k f) (f k)
    ∙ largest_more k f)
