use Rattle.std.proofs.Common.{◌≡◌}
use Rattle.model.specs.Netting.{position_count}
use Rattle.netting.proofs.net_positions.Given as goal
use Rattle.model.specs.Batch.{dvp_amount, key}
use Rattle.netting.specs.Laws.{change}
use Rattle.numbers.specs.Slots.{slots}

abbrev pub invariant-loop-r : goal.invariant-loop-r
invariant-loop-r l =
    record {
      nets : l.nets ≡ slots position_count (key l.fn.batch.words.now) (change l.fn.batch.words.now) l.r;
      dvps : l.dvps ≡ slots position_count (key l.fn.batch.words.now) (dvp_amount l.fn.batch.words.now) l.r;
    }
