use Rattle.std.proofs.Common.{◌≡◌, take}
use Rattle.numbers.specs.Put.{put}
use Rattle.model.specs.Bytes.{words_of}
use Rattle.byte_words.proofs.decode.Given as goal

abbrev pub invariant-loop-i : goal.invariant-loop-i
invariant-loop-i l = l.words ≡ put 0 (take l.i (words_of l.bytes)) l.initial.words
