use Rattle.std.proofs.Common.{rules}
use Rattle.whole_file.proofs.Reading.{read_more}
use Rattle.whole_file.proofs.read_full.Goals as goal

pub loop-done-preserved : goal.loop-done-preserved
loop-done-preserved g c =
    (search rules, search rules, read_more _ _ _ _ _ _ _ _ c.loop-done.invariant.0 c.in-Some.ensures.prefix_len.0 c.loop-done.invariant.2 c.in-Some.ensures.bytes)
