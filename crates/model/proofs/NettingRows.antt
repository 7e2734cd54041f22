-- Rows 30 and 31 by position: they look at the nets and the DVPs alone.
use Rattle.std.specs.Prelude.{◌≡◌, refl, List, Ok}
use Rattle.std.proofs.Common.{⊎_elim, arith, le_refl, mul-le-mul, le-ltb, ltb-false}
use Prim.Native.Nat.{ℕ, ◌*◌, ◌≤◌, ◌<◌}
use Rattle.std.proofs.Math.IntN.{nat_abs}
use Rattle.model.specs.Limits.{position_limit, dvp_amount_limit}
use Rattle.model.specs.Words.{payload, bits}
use Rattle.model.specs.DayFile.{series_count, multiplier}
use Rattle.model.specs.Batch.{record_word, key, place}
use Rattle.model.specs.Netting.{net, dvp, row30, netting_check}
use Rattle.model.specs.RewritingChecks.{row31, dvp_check}
use Rattle.model.proofs.Accepted.{DayRows, RecordRows, clear, clear_back, netting_rows}
use Rattle.model.proofs.Limits.{place_limit, multiplier_least}
use Rattle.model.proofs.Nets.{record_or_none}

-- a key's series place
pub place_of_key : (x p : ℕ) → bits x 0 10 ≡ p → bits x 0 8 ≡ bits p 0 8
place_of_key x p e = omega arith

module _ (d b : List ℕ) where
  pub net_limited : netting_check d b ≡ Ok tt → (p : ℕ) → nat_abs (net b p) * multiplier d (bits p 0 8) ≤ position_limit
  unfolding row30
  net_limited e p =
      ⊎_elim
      (λ z.
      let s : nat_abs (net b (key b z.0)) * multiplier d (place b z.0) ≤ position_limit =
      ltb-false position_limit (nat_abs (net b (key b z.0)) * multiplier d (place b z.0)) (netting_rows d b e z.0 z.1)
      in
      rw (place_of_key (payload (record_word b z.0 0)) p z.2, z.2) at s)
      (λ z. rw z.0 (omega arith))
      (record_or_none b p)

  pub netting_by : ((p : ℕ) → nat_abs (net b p) * multiplier d (bits p 0 8) ≤ position_limit) → netting_check d b ≡ Ok tt
  unfolding netting_check row30
  netting_by h =
      clear_back _ _ _
      (λ r l.
      rw (place_of_key (payload (record_word b r 0)) (key b r) refl)
      (le-ltb position_limit (nat_abs (net b (key b r)) * multiplier d (bits (key b r) 0 8)) (h (key b r))))

  -- where every series that a record names has a multiplier, the nets themselves are limited
  pub net_within : DayRows d → RecordRows d b → netting_check d b ≡ Ok tt → (p : ℕ) → nat_abs (net b p) ≤ position_limit
  net_within days rows e p =
      ⊎_elim
      (λ z.
      let placed : bits p 0 8 < series_count d = rw (place_of_key (payload (record_word b z.0 0)) p z.2) at (place_limit d b rows z.0 z.1) in
      omega (arith, net_limited e p, mul-le-mul (le_refl (nat_abs (net b p))) (multiplier_least d days (bits p 0 8) placed)))
      (λ z. rw z.0 (omega arith))
      (record_or_none b p)

module _ (b : List ℕ) where
  pub dvp_within : dvp_check b ≡ Ok tt → (p : ℕ) → nat_abs (dvp b p) ≤ dvp_amount_limit
  unfolding dvp_check row31
  dvp_within e p =
      ⊎_elim
      (λ z. let s = ltb-false dvp_amount_limit (nat_abs (dvp b (key b z.0))) (clear _ _ _ e z.0 z.1) in rw z.2 at s)
      (λ z. rw z.1 (omega arith))
      (record_or_none b p)

  pub dvps_by : ((p : ℕ) → nat_abs (dvp b p) ≤ dvp_amount_limit) → dvp_check b ≡ Ok tt
  unfolding dvp_check row31
  dvps_by h = clear_back _ _ _ (λ r l. le-ltb dvp_amount_limit (nat_abs (dvp b (key b r))) (h (key b r)))
