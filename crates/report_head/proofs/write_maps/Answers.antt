use Rattle.std.proofs.Common.{◌∷◌, [], ◌∙◌, arith}
use Rattle.numbers.specs.Put.{put_copied}
use Rattle.model.specs.Words.{word}
use Rattle.report_head.proofs.write_maps.Goals as goal

pub returns : goal.returns
returns c =
    let head = c.copy_from_slice.ensures.after ∙ (λ i. c.word.ensures i ∷ c.word-2.ensures i ∷ c.word-3.ensures i ∷ []) in
    put_copied 0 3 (word 1 c.args.count ∷ word 4 c.args.maps.ordinary ∷ word 4 c.args.maps.fail ∷ []) c.args.memory.now _ head (omega arith)
