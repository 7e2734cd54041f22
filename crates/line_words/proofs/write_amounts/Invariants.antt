use Rattle.std.proofs.Common.{◌≡◌, take}
use Rattle.numbers.specs.Put.{put}
use Rattle.model.specs.Report.{words_of_amounts}
use Rattle.line_words.proofs.write_amounts.Given as goal

abbrev pub invariant-loop-i : goal.invariant-loop-i
invariant-loop-i l = l.out ≡ put 0 (words_of_amounts (take l.i l.amounts)) l.fn.out
