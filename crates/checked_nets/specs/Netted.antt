-- Rows 30 and 31; and the tables of a batch's nets and DVPs in place of the batch: which places are held, and that records can hold them.
use Rattle.std.specs.Prelude.{◌≡◌, false, ◌||◌, List, [], ◌∷◌, ℕ, ◌*◌, ◌≤◌, ◌<◌, ℤ, Ok}
use Rattle.std.proofs.Common.{ap, ◌∙◌, arith, ⊎_elim}
use Rattle.numbers.specs.Chosen.{chosen_rest}
use Rattle.numbers.specs.Table.{tabulate, entry, entry_tabulate}
use Rattle.model.specs.Outcomes.{Verdict}
use Rattle.model.specs.Rows.{tried}
use Rattle.model.specs.DayFile.{series_count}
use Rattle.model.specs.Netting.{position_count, net, dvp, netting_check}
use Rattle.model.specs.Steps.Positions.{not_zero}
use Rattle.model.specs.Rewriting.{in_order, held_records}
use Rattle.model.specs.RewritingChecks.{dvp_check}
use Rattle.model.proofs.Accepted.{DayRows, RecordRows}
use Rattle.model.proofs.HeldRecords.{held_at, record_at_place}
use Rattle.model.proofs.Limits.{place_limit}
use Rattle.model.proofs.NettingRows.{net_within, dvp_within}
use Rattle.model.proofs.Nets.{few_series, record_or_none, none_outside}
use Rattle.position_records.specs.Places.{Within, series_positions, records_to}

-- rows 30 and 31: the sums that a record can hold
unfoldable pub sums_check : List ℕ → List ℕ → Verdict
sums_check d b = tried (netting_check d b ∷ dvp_check b ∷ [])

-- a table of a batch's positions is its family
module _ (b : List ℕ) where
  pub nets_are : (nets : List ℤ) → nets ≡ tabulate position_count (net b) → entry nets ≡ net b
  nets_are nets e = ap entry e ∙ entry_tabulate position_count (net b) (λ p h. (none_outside b p h).0)

  pub dvps_are : (dvps : List ℤ) → dvps ≡ tabulate position_count (dvp b) → entry dvps ≡ dvp b
  dvps_are dvps e = ap entry e ∙ entry_tabulate position_count (dvp b) (λ p h. (none_outside b p h).1)

module _ (d b : List ℕ) (days : DayRows d) (rows : RecordRows d b) where
  -- the places of the day file's series
  abbrev pub day_places : ℕ
  day_places = series_positions * series_count d

  pub places_most : day_places ≤ position_count
  places_most = omega (arith, few_series d days)

  -- no position of another series is held
  past : (i : ℕ) → day_places ≤ i → i < position_count → held_at (net b) (dvp b) i ≡ false
  past i h l =
      ⊎_elim (λ z. absurd (omega (arith, z.2, place_limit d b rows z.0 z.1))) (λ z i. not_zero (z.0 i) || not_zero (z.1 i)) (record_or_none b (in_order i))

  pub all_held : held_records (net b) (dvp b) ≡ records_to (net b) (dvp b) day_places
  unfolding held_records
  all_held = chosen_rest (held_at (net b) (dvp b)) (record_at_place (net b) (dvp b)) day_places position_count places_most past

  -- rows 30 and 31 passed
  pub all_within : netting_check d b ≡ Ok tt → dvp_check b ≡ Ok tt → Within (net b) (dvp b)
  all_within e q = record { nets = λ p h. net_within d b days rows e p; dvps = λ p h. dvp_within b q p }
