use Rattle.std.proofs.Common.{◌≡◌, ◌+◌, ◌<◌, ℕ, List, [], length, get_or, set, w32, arith, sym, ap, ◌∙◌, take_all, refl}
use Rattle.std.specs.Int.{from_le_bytes}
use Rattle.numbers.specs.Put.{put, put-none, put_next}
use Rattle.model.specs.Bytes.{words_of}
use Rattle.model.proofs.ByteWords.{words_length}
use Rattle.byte_words.proofs.Fours.{fours_at}
use Rattle.byte_words.proofs.decode.Goals as goal

pub loop-i-init : goal.loop-i-init
loop-i-init c = sym (put-none 0 c.args.words.now)

pub loop-i-preserved : goal.loop-i-preserved
loop-i-preserved c =
    let b = c.args.bytes.now in
    let i = c.loop-i.i in
    let n = c.as_chunks.ensures.front_len in
    let h : i < length (words_of b) = omega (arith, words_length b, c.loop-i-test.true, n) in
    let w = c.from_le_bytes.ensures ∙ ap (λ (l : List (List ℕ)). from_le_bytes w32 (get_or l i [])) c.as_chunks.ensures.front ∙ fours_at b _ i refl (omega (arith, words_length b)) in
    let z : i ≡ 0 + i = omega arith in
    (λ j. set (c.loop-i.invariant j) (z j) (w j)) ∙ put_next 0 i (words_of b) c.args.words.now 0 h (omega (arith, words_length b, c.requires))

pub returns : goal.returns
returns c =
    let b = c.args.bytes.now in
    c.loop-i.invariant ∙ ap (λ (w : List ℕ). put 0 w c.args.words.now) (take_all c.loop-i.i (words_of b) (omega (arith, words_length b, c.as_chunks.ensures.front_len, c.loop-i-test.false)))
