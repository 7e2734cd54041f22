use Rattle.std.proofs.Common.{◌*◌, ◌∷◌, [], ℕ, List, arith, ◌∙◌, ap, get_or}
use Rattle.numbers.specs.Put.{put, put_copied}
use Rattle.model.specs.Bytes.{bytes_of}
use Rattle.byte_words.proofs.encode.Goals as goal
use Rattle.byte_words.specs.Words.{bytes_none, bytes_more}

pub loop-i-init : goal.loop-i-init
loop-i-init c = bytes_none c.args.bytes.now c.args.words.now

pub loop-i-preserved : goal.loop-i-preserved
unfolding bytes_of
loop-i-preserved c =
    let i = c.loop-i.i in
    let w : List ℕ = bytes_of (get_or c.args.words.now i 0 ∷ []) in
    put_copied (4 * i) _ w c.loop-i.bytes _ (c.copy_from_slice.ensures.after ∙ c.to_le_bytes.ensures) (omega arith)
    ∙ ap (put (4 * i) w) c.loop-i.invariant
    ∙ bytes_more c.args.bytes.now c.args.words.now i c.loop-i-test.true c.requires
