use Rattle.std.proofs.Common.{◌≡◌, take}
use Rattle.numbers.specs.Put.{put}
use Rattle.model.specs.Bytes.{bytes_of}
use Rattle.byte_words.proofs.encode.Given as goal

abbrev pub invariant-loop-i : goal.invariant-loop-i
invariant-loop-i l = l.bytes ≡ put 0 (bytes_of (take l.i l.words)) l.initial.bytes
