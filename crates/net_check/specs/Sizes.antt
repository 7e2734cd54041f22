-- Nets held against the day file, and their size.
use Rattle.std.specs.Prelude.{◌≡◌, List, ℕ, ◌+◌, ◌≤◌, ◌<◌, ℤ, pos, nat_abs, length, get_or}
use Rattle.std.proofs.Common.{arith, to_z, of_z}
use Rattle.std.specs.Int.{w64}
use Rattle.numbers.specs.Abs.{nat_abs-pos-sub}
use Rattle.numbers.specs.Table.{tabulate}
use Rattle.model.specs.Limits.{contracts_limit, quantity_limit}
use Rattle.model.specs.DayFile.{class_count, series_count, day_words}
use Rattle.model.specs.Batch.{record_count, key, place, long, short}
use Rattle.model.specs.Netting.{net, position_count}
use Rattle.model.proofs.Accepted.{DayRows, RecordRows}
use Rattle.model.proofs.Limits.{place_limit, day-length}
use Rattle.netting.specs.Limits.{Limited}
use Rattle.netting.specs.Laws.{change, slot_size, entry_read}

-- what both files must have passed: the day file's length, and the places of the series (rows 11 and 23)
pub record Placed (d b : List ℕ) : Type 0 where
  pub whole : length d ≡ day_words (class_count d) (series_count d)
  pub places : (r : ℕ) → r < record_count b → place b r < series_count d

-- what their checks give
pub placed : (d b : List ℕ) → DayRows d → RecordRows d b → Placed d b
placed d b p r = record { whole = day-length d p; places = place_limit d b r }

pub net_limit_lem : (b : List ℕ) → Limited b → (p : ℕ) → nat_abs (net b p) ≤ contracts_limit + quantity_limit
unfolding net
net_limit_lem b s p =
    omega (
      arith,
      s.few,
      slot_size (key b) (change b) (record_count b) p quantity_limit (λ r h. nat_abs-pos-sub (short b r) (long b r) quantity_limit (s.shorts r h) (s.longs r h)),
    )

-- the net of record r's position, as read from the table
pub net_read : (b : List ℕ) (nets : List ℤ) (k r : ℕ) → Limited b → nets ≡ tabulate position_count (net b) → k ≡ key b r
    → to_z w64 (of_z w64 (get_or nets k (pos 0))) ≡ net b (key b r)
net_read b nets k r s e q = entry_read (net b) nets k (key b r) e q (omega arith) (omega (arith, net_limit_lem b s (key b r)))
