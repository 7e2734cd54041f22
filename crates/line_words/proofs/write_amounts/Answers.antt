use Rattle.std.proofs.Common.{◌≡◌, ◌+◌, ◌*◌, pos, get_or, ◌∙◌, ap, refl, arith}
use Rattle.numbers.specs.Put.{put, put_copied}
use Rattle.numbers.specs.Abs.{back}
use Rattle.model.specs.Words.{amount_words}
use Rattle.line_words.specs.Amounts.{amounts-none, amounts_more}
use Rattle.line_words.proofs.write_amounts.Goals as goal

pub loop-i-init : goal.loop-i-init
loop-i-init c = amounts-none c.args.out.now 0 c.args.amounts.now

pub loop-i-preserved : goal.loop-i-preserved
loop-i-preserved c =
    let l = c.loop-i in
    let h = c.loop-i-test.true in
    let v = get_or c.args.amounts.now l.i (pos 0) in
    let z = back {v = v} refl (c.requires.1.small l.i h) in
    let front : 3 * l.i ≡ 0 + 3 * l.i = omega arith in
    put_copied (3 * l.i) _ (amount_words v) l.out _ (c.copy_from_slice.ensures.after ∙ c.amount_words.ensures ∙ ap amount_words z) (omega arith)
    ∙ (λ i. put (front i) (amount_words v) (l.invariant i))
    ∙ amounts_more c.args.out.now 0 c.args.amounts.now l.i h (omega (arith, c.requires.0))
