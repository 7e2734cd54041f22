-- The size of a summed DVP.
use Rattle.std.specs.Prelude.{◌≡◌, List, ℕ, ℤ, pos, get_or}
use Rattle.std.proofs.Common.{arith, to_z, of_z}
use Rattle.std.specs.Int.{w64}
use Rattle.numbers.specs.Table.{tabulate}
use Rattle.model.specs.Limits.{dvp_amount_limit}
use Rattle.model.specs.Batch.{record_count, key, dvp_amount}
use Rattle.model.specs.Netting.{dvp, position_count}
use Rattle.netting.specs.Limits.{Limited}
use Rattle.netting.specs.Laws.{slot_size, entry_read}

-- the DVP of record r's position, as read from the table
pub dvp_read : (b : List ℕ) (dvps : List ℤ) (k r : ℕ) → Limited b → dvps ≡ tabulate position_count (dvp b) → k ≡ key b r
    → to_z w64 (of_z w64 (get_or dvps k (pos 0))) ≡ dvp b (key b r)
unfolding dvp
dvp_read b dvps k r s e q =
    entry_read (dvp b) dvps k (key b r) e q (omega arith) (omega (arith, s.few, slot_size (key b) (dvp_amount b) (record_count b) (key b r) dvp_amount_limit s.dvps))
