use Rattle.std.proofs.Common.{◌∷◌, [], ◌+◌, ◌∙◌, ap, set, arith}
use Rattle.numbers.specs.Put.{put, put_one, put_part, put-put}
use Rattle.words.specs.Kinds.{kind_number}
use Rattle.model.specs.Words.{word}
use Rattle.model.specs.Report.{words_of_amounts}
use Rattle.line_words.specs.Amounts.{words_length}
use Rattle.line_words.proofs.write_headed_at.Goals as goal

pub returns : goal.returns
returns c =
    let out = c.args.memory.now in
    let at = c.args.at in
    let l = c.args.amounts.now in
    let w = word (kind_number c.args.kind) c.args.payload in
    let h = c.requires.amounts_in_bounds.0 in
    put_part (at + 1) (words_of_amounts l) (set out at c.word.result) _ c.write_amounts.ensures
    ∙ ap (put (at + 1) (words_of_amounts l)) (ap (set out at) c.word.ensures ∙ put_one out at w (omega (arith, h)))
    ∙ put-put at (w ∷ []) (words_of_amounts l) out (at + 1) (omega arith) (omega (arith, words_length l, h))
