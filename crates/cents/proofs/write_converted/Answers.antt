use Rattle.std.proofs.Common.{◌∙◌, ap, arith}
use Rattle.numbers.specs.Abs.{back}
use Rattle.numbers.specs.Put.{put, put_copied}
use Rattle.model.specs.Batch.{batch_words, record_word, dvp_amount}
use Rattle.model.specs.Cents.{record_with}
use Rattle.model.proofs.Sizes.{amount_small}
use Rattle.cents.specs.Converted.{amount_in, record_in, header_written, record_written}
use Rattle.cents.proofs.write_converted.Goals as goal

pub loop-i-init : goal.loop-i-init
loop-i-init c = header_written c.args.edition c.args.batch.now c.args.header c.args.out.now (omega (arith, c.requires.room))

pub loop-i-preserved : goal.loop-i-preserved
loop-i-preserved c =
    let e = c.args.edition in
    let b = c.args.batch.now in
    let h = c.args.header in
    let i = c.loop-i.i in
    let v = c.new-record.ensures in
    let own = back (c.dvp_amount.ensures ∙ (λ j. dvp_amount (v.0 j) (v.1 j))) (amount_small (record_word b i 3) (record_word b i 4) (record_word b i 5)) in
    let amount = back (c.amount_in-amount.ensures ∙ ap (amount_in e) own) (c.requires.amounts.small i c.loop-i-test.true) in
    put_copied (batch_words i) _ (record_in e b h i) c.loop-i.out _ (c.copy_from_slice.ensures.after ∙ c.record_with.ensures ∙ (λ j. record_with (v.0 j) (v.1 j) (amount j))) (omega arith)
    ∙ ap (put (batch_words i) (record_in e b h i)) c.loop-i.invariant
    ∙ record_written e b h c.args.out.now i (omega (arith, c.requires.room, c.loop-i-test.true))
