-- What an expired future adds to the account (U9), for a reader, and which rows speak of it. Words in quotes are the request's.
use Rattle.std.specs.Prelude.{◌≡◌, Bool, true, false, ◌||◌, ◌&&◌, not, cond, List, ℕ, ◌+◌, ◌<◌, ltb, eqb, ℤ, pos, neg_ℤ, nat_abs, ◌+ℤ◌, ◌-ℤ◌, ◌*ℤ◌}
use Rattle.std.proofs.Math.IntN.{+ℤ_idr, *ℤ-zero}
use Rattle.std.proofs.Math.Path.{ap}
use Rattle.std.proofs.Common.{◌∙◌, arith, eqb-true, ne_eqb}
use Rattle.numbers.specs.Tests.{and_right, and_true, or_false}
use Rattle.numbers.specs.Sums.{sum_to_ext, sum_where_ext}
use Rattle.numbers.specs.Extremes.{abs_z}
use Rattle.model.specs.DayFile.{series_count, series_type, serial, expiry, multiplier, strike, adjustment, underlying, projected, delivery_price, closing, is_future, is_expired, is_call, is_put, is_option, is_security, is_derivative, is_marked}
use Rattle.model.specs.DayChecks.{row17}
use Rattle.model.specs.Batch.{place, exercised, fail, dvp_amount}
use Rattle.model.specs.BatchChecks.{row24, row25, row26}
use Rattle.model.specs.Steps.Positions.{open_net, exercised_net}
use Rattle.model.specs.Steps.Classes.{of_class, type_of, future_of, worth}
use Rattle.model.specs.Steps.Spread.{spread, non_spread}
use Rattle.model.specs.Steps.Mtm.{security_mtm, expired_mtm, mtm_of}
use Rattle.model.specs.Steps.Prices.{open_price}
use Rattle.model.specs.Steps.Points.{underlying_change, counted_net, point_of}
use Rattle.model.specs.Steps.Minimum.{minimum_types, minimum_rate, type_net, minimum}
use Rattle.model.proofs.Spreads.{spread_alike, non_spread_alike}

-- two families of nets agree on the open positions of all series but the expired futures in book k
abbrev pub OthersAgree : List ℕ → (ℕ → ℤ) → (ℕ → ℤ) → ℕ → Type 0
OthersAgree d n₁ n₂ k = (s : ℕ) → s < series_count d → is_expired (series_type d s) ≡ false → open_net n₁ k s ≡ open_net n₂ k s

pub record Expired : Type 0 where
  -- "MTM is net × multiplier × (underlying − delivery price)"
  pub marked : (t : ℕ) → is_expired t ≡ true → is_marked t ≡ true
  pub mtm : (d : List ℕ) (n v : ℕ → ℤ) (k c s : ℕ) → is_expired (series_type d s) ≡ true
      → mtm_of d n v k c s ≡ worth d s (open_net n k s) (pos (underlying d c) -ℤ pos (delivery_price d s))
  -- "At each point it adds net × multiplier × (projected underlying − underlying)"
  pub point : (d : List ℕ) (n : ℕ → ℤ) (k c j s : ℕ) → is_expired (series_type d s) ≡ true
      → point_of d n k c j s ≡ worth d s (open_net n k s) (pos (projected d c j) -ℤ pos (underlying d c))
  -- "It takes no part in spreading": nets that agree on all other series have the same spread, and leave the same of each of those non-spread
  pub spread_same : (d : List ℕ) (n₁ n₂ : ℕ → ℤ) (k c : ℕ) → OthersAgree d n₁ n₂ k → spread d n₁ k c ≡ spread d n₂ k c
  pub non_spread_same : (d : List ℕ) (n₁ n₂ : ℕ → ℤ) (k c s : ℕ) → OthersAgree d n₁ n₂ k → s < series_count d → is_expired (series_type d s) ≡ false
      → non_spread d n₁ k c s ≡ non_spread d n₂ k c s
  -- ".. or in the minimum"
  pub minimum_same : (d : List ℕ) (n₁ n₂ : ℕ → ℤ) (k c : ℕ) → OthersAgree d n₁ n₂ k → minimum d n₁ k c ≡ minimum d n₂ k c
  -- "Refusal 17 accepts type 8 with serial 0", any expiry and delivery price, and no adjustment
  pub row_17 : (d : List ℕ) (s : ℕ) → is_expired (series_type d s) ≡ true → row17 d s ≡ (ltb 0 (serial d s) || ltb 0 (adjustment d s))
  -- it is neither an option nor a security: exercised it is 24, as a fail 25, with a DVP 26
  pub row_24 : (d b : List ℕ) (r : ℕ) → is_expired (series_type d (place b r)) ≡ true → row24 d b r ≡ eqb (exercised b r) 1
  pub row_25 : (d b : List ℕ) (r : ℕ) → is_expired (series_type d (place b r)) ≡ true → row25 d b r ≡ eqb (fail b r) 1
  pub row_26 : (d b : List ℕ) (r : ℕ) → is_expired (series_type d (place b r)) ≡ true → row26 d b r ≡ ltb 0 (nat_abs (dvp_amount b r))

-- ---- the type

module _ (t : ℕ) (h : is_expired t ≡ true) where
  -- a test of the type is that of its number
  of_8 : (f : ℕ → Bool) → f t ≡ f 8
  of_8 f = ap f (eqb-true t 8 h)

module _ (d : List ℕ) (s : ℕ) (h : is_expired (series_type d s) ≡ true) where
  abbrev t : ℕ
  t = series_type d s

  mtm_lem : (n v : ℕ → ℤ) (k c : ℕ) → mtm_of d n v k c s ≡ expired_mtm d n k c s
  mtm_lem n v k c = ap (λ (b : Bool). cond b (security_mtm d n v k s) (expired_mtm d n k c s)) (of_8 t h is_security)

  point_lem : (n : ℕ → ℤ) (k c j : ℕ) → point_of d n k c j s ≡ worth d s (open_net n k s) (underlying_change d c j)
  unfolding counted_net
  point_lem n k c j =
      let x = underlying_change d c j in
      let counted = ap (λ (b : Bool). cond b (non_spread d n k c s) (open_net n k s)) (of_8 t h is_future) in
      (λ i. worth d s (counted i) (cond (h i) x (pos (open_price d s (counted i) j) -ℤ pos (closing d s)))
      +ℤ worth d s (exercised_net n k s) (cond (of_8 t h is_call i) x (cond (of_8 t h is_put i) (neg_ℤ x) (pos 0))))
      ∙ ap (λ (z : ℤ). worth d s (open_net n k s) x +ℤ z) (*ℤ-zero (exercised_net n k s *ℤ pos (multiplier d s)))
      ∙ +ℤ_idr (worth d s (open_net n k s) x)

  row_17_lem : row17 d s ≡ (ltb 0 (serial d s) || ltb 0 (adjustment d s))
  unfolding row17
  row_17_lem =
      (λ i. not (of_8 t h is_derivative i || of_8 t h is_security i) || (of_8 t h is_derivative i && ltb 0 (serial d s))
      || (of_8 t h is_future i && ltb 0 (strike d s))
      || (of_8 t h is_security i && (ltb 0 (strike d s) || ltb 0 (expiry d s)))
      || (not (of_8 t h is_option i) && ltb 0 (adjustment d s)))
      ∙ ap (λ (b : Bool). b || ltb 0 (adjustment d s)) (or_false (ltb 0 (serial d s) || false) ∙ or_false (ltb 0 (serial d s)))

-- ---- spread and minimum

module _ (d : List ℕ) (n₁ n₂ : ℕ → ℤ) (k c : ℕ) (b : OthersAgree d n₁ n₂ k) where
  future_same : (s : ℕ) → s < series_count d → future_of d c s ≡ true → open_net n₁ k s ≡ open_net n₂ k s
  future_same s p q = b s p (ap is_expired (eqb-true (series_type d s) 1 (and_right (of_class d c s) (is_future (series_type d s)) q)))

  minimum_lem : minimum d n₁ k c ≡ minimum d n₂ k c
  unfolding minimum type_net
  minimum_lem =
      sum_to_ext minimum_types _ _
      (λ i p.
      ap (λ (z : ℤ). abs_z z *ℤ pos (minimum_rate d c (i + 1)))
      (sum_where_ext (series_count d) (type_of d c (i + 1)) _ _
      (λ s q h.
      let e = eqb-true (series_type d s) (i + 1) (and_right (of_class d c s) (eqb (series_type d s) (i + 1)) h) in
      b s q (ne_eqb (series_type d s) 8 (λ z. omega arith)))))

pub expired_theorems : Expired
unfolding row24 row25 row26
expired_theorems =
    record {
      marked = λ t h. of_8 t h is_marked;
      mtm = λ d n v k c s h. mtm_lem d s h n v k c;
      point = λ d n k c j s h. point_lem d s h n k c j;
      spread_same = λ d n₁ n₂ k c b. spread_alike d n₁ n₂ k c (future_same d n₁ n₂ k c b);
      non_spread_same = λ d n₁ n₂ k c s b p e. non_spread_alike d n₁ n₂ k c (future_same d n₁ n₂ k c b) s p (b s p e);
      minimum_same = minimum_lem;
      row_17 = row_17_lem;
      row_24 = λ d b r h. ap (λ (x : Bool). eqb (exercised b r) 1 && not x) (of_8 (series_type d (place b r)) h is_option) ∙ and_true (eqb (exercised b r) 1);
      row_25 = λ d b r h. ap (λ (x : Bool). eqb (fail b r) 1 && not x) (of_8 (series_type d (place b r)) h is_security) ∙ and_true (eqb (fail b r) 1);
      row_26 = λ d b r h. ap (λ (x : Bool). ltb 0 (nat_abs (dvp_amount b r)) && not x) (of_8 (series_type d (place b r)) h is_security) ∙ and_true (ltb 0 (nat_abs (dvp_amount b r)));
    }
