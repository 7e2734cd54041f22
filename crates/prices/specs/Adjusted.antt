-- Ten prices adjusted: one store in the theoretical ones.
use Rattle.std.specs.Prelude.{◌≡◌, refl, true, false, List, ℕ, max, ◌<◌, eqb, ℤ, pos, get_or, set}
use Rattle.std.proofs.Common.{sym, ap, ◌∙◌, arith, eq-eqb, ne_eqb}
use Rattle.std.specs.Int.Signed.{lt_z}
use Rattle.numbers.specs.Table.{tabulate, get_or-tabulate, tabulate_ext, tabulate-set}
use Rattle.model.specs.Limits.{point_count, downside5, upside5}
use Rattle.model.specs.DayFile.{series_type, adjustment, theoretical, is_call, is_put}
use Rattle.model.specs.Steps.Prices.{adjusted_at, short_price, open_price}
use Rattle.model.proofs.Prices.{short-adjusted, short_elsewhere, open_short, open_not-short}

module _ (d : List ℕ) (s : ℕ) where
  -- the ten theoretical prices
  abbrev given : List ℕ
  given = tabulate point_count (theoretical d s)

  -- .. with the adjustment stored at j where it is larger
  abbrev stored : ℕ → List ℕ
  stored j = set given j (max (get_or given j 0) (adjustment d s))

  -- adjusted at j and at no other point
  one : (j : ℕ) → j < point_count → ((k : ℕ) → adjusted_at (series_type d s) k ≡ eqb k j) → stored j ≡ tabulate point_count (short_price d s)
  one j h t =
      tabulate-set point_count (theoretical d s) (short_price d s) j _ h
      (ap (λ (x : ℕ). max x (adjustment d s)) (get_or-tabulate point_count (theoretical d s) j 0 h) ∙ sym (short-adjusted d s j (t j ∙ eq-eqb j j refl)))
      (λ i l n. sym (short_elsewhere d s i (t i ∙ ne_eqb i j n)))

  pub short-call : is_call (series_type d s) ≡ true → stored upside5 ≡ tabulate point_count (short_price d s)
  short-call h = one upside5 (omega arith) (λ k. rw h)

  pub short-put : is_call (series_type d s) ≡ false → is_put (series_type d s) ≡ true → stored downside5 ≡ tabulate point_count (short_price d s)
  short-put p q = one downside5 (omega arith) (λ k. rw (p, q))

  pub short_other : is_call (series_type d s) ≡ false → is_put (series_type d s) ≡ false → given ≡ tabulate point_count (short_price d s)
  short_other p q = tabulate_ext point_count _ _ (λ k l. sym (short_elsewhere d s k (rw (p, q))))

  pub prices_short : (z : ℤ) → lt_z (pos 0) z ≡ true → tabulate point_count (short_price d s) ≡ tabulate point_count (open_price d s z)
  prices_short z h = tabulate_ext point_count _ _ (λ k l. sym (open_short d s k z h))

  pub prices_not-short : (z : ℤ) → lt_z (pos 0) z ≡ false → given ≡ tabulate point_count (open_price d s z)
  prices_not-short z h = tabulate_ext point_count _ _ (λ k l. sym (open_not-short d s k z h))
