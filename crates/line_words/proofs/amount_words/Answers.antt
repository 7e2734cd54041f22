use Rattle.std.proofs.Common.{◌∷◌, [], to_z-of_z, ◌∙◌, ap}
use Rattle.model.specs.Words.{high_word, middle_word, low_word}
use Rattle.line_words.proofs.amount_words.Goals as goal

pub returns : goal.returns
returns c =
    let e = to_z-of_z c.ranges.z in
    let h = c.high_word.ensures ∙ ap high_word e in
    let m = c.middle_word.ensures ∙ ap middle_word e in
    let l = c.low_word.ensures ∙ ap low_word e in
    λ i. h i ∷ m i ∷ l i ∷ []
