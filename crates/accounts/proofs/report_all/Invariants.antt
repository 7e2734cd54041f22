use Rattle.std.proofs.Common.{length, ◌≡◌}
use Rattle.model.specs.ManyAccounts.{batch_of, report_start, memory_to, results_to, words_before}
use Rattle.accounts.proofs.report_all.Given as goal

abbrev pub invariant-loop-i : goal.invariant-loop-i
invariant-loop-i l =
    (l.from ≡ words_before l.lengths l.i)
    × (l.at ≡ report_start l.day.words.now (batch_of l.batches l.lengths) (length l.fn.memory) l.i)
    × (l.results ≡ results_to l.day.words.now (batch_of l.batches l.lengths) (length l.fn.memory) l.fn.results l.i)
    × (l.memory ≡ memory_to l.day.words.now (batch_of l.batches l.lengths) l.fn.memory l.i)
