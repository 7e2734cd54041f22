-- Of two series that deposits cover, the larger key goes first; what the keys add is what is covered before.
use Rattle.std.specs.Prelude.{◌≡◌, Bool, true, false, ◌&&◌, ◌||◌, cond, List, ℕ, ◌+◌, ◌-◌, ◌*◌, ◌/◌, ◌^◌, ◌<◌, ltb, eqb, ℤ}
use Rattle.std.proofs.Common.{sym, ap, ◌∙◌, arith, mul-le-mul, le_refl, lt-ltb, le-ltb, eq-eqb, ne_eqb}
use Rattle.std.proofs.Math.Decide.{dec_lt}
use Rattle.model.specs.Limits.{most_series}
use Rattle.model.specs.DayFile.{series_type, expiry, is_future}
use Rattle.model.specs.Steps.Cover.{is_coverable, open_rank, short_of, goes_before}
use Rattle.cover.specs.Before.{adds_before}
use Rattle.cover.specs.Keys.{open_unit, expiry_unit, short_unit, key_of, order_key, key_adds}

-- of two numbers with a front and a back digit the one with the larger front is larger, among equals that with the larger back
two_digits : (u a b p q : ℕ) → p < u → q < u → ltb (u * b + q) (u * a + p) ≡ (ltb b a || (eqb a b && ltb q p))
two_digits u a b p q hp hq = by (dec_lt b a) (dec_lt a b)
  where
    backs : a ≡ b → Dec (q < p) → ltb (u * b + q) (u * a + p) ≡ (ltb b a || (eqb a b && ltb q p))
    backs e (yes h) =
        lt-ltb (u * b + q) (u * a + p) (omega (arith, ap (λ x. u * x) e)) ∙ sym (rw (le-ltb b a (omega arith), eq-eqb a b e, lt-ltb q p h))
    backs e (no h) =
        le-ltb (u * b + q) (u * a + p) (omega (arith, ap (λ x. u * x) e)) ∙ sym (rw (le-ltb b a (omega arith), eq-eqb a b e, le-ltb q p (omega arith)))

    by : Dec (b < a) → Dec (a < b) → ltb (u * b + q) (u * a + p) ≡ (ltb b a || (eqb a b && ltb q p))
    by (yes h) w = lt-ltb (u * b + q) (u * a + p) (omega (arith, mul-le-mul (le_refl u) h)) ∙ sym (rw (lt-ltb b a h))
    by (no h) (yes w) =
        le-ltb (u * b + q) (u * a + p) (omega (arith, mul-le-mul (le_refl u) w)) ∙ sym (rw (le-ltb b a (omega arith), ne_eqb a b (λ z. omega arith)))
    by (no h) (no w) = backs (omega arith) (dec_lt q p)

-- the lower place has the larger number
lower_place : (t s : ℕ) → t < most_series → s < most_series → ltb (most_series - 1 - s) (most_series - 1 - t) ≡ ltb t s
lower_place t s ht hs = by (dec_lt t s)
  where
    by : Dec (t < s) → ltb (most_series - 1 - s) (most_series - 1 - t) ≡ ltb t s
    by (yes h) = lt-ltb (most_series - 1 - s) (most_series - 1 - t) (omega arith) ∙ sym (lt-ltb t s h)
    by (no h) = le-ltb (most_series - 1 - s) (most_series - 1 - t) (omega arith) ∙ sym (le-ltb t s (omega arith))

nested : (a e o t : ℕ) → key_of a e o t ≡ short_unit * a + (expiry_unit * e + (open_unit * o + (most_series - 1 - t)))
nested a e o t = omega arith

-- the larger key goes first
key_order : (a b e f o p t s : ℕ) → e < 2 ^ 12 → f < 2 ^ 12 → o < 2 → p < 2 → t < most_series → s < most_series
    → ltb (key_of b f p s) (key_of a e o t) ≡ (ltb b a || (eqb a b && (ltb f e || (eqb e f && (ltb p o || (eqb o p && ltb t s))))))
key_order a b e f o p t s he hf ho hp ht hs =
    (λ i. ltb (nested b f p s i) (nested a e o t i))
    ∙ two_digits short_unit a b (expiry_unit * e + (open_unit * o + (most_series - 1 - t))) (expiry_unit * f + (open_unit * p + (most_series - 1 - s))) (omega arith) (omega arith)
    ∙ ap (λ (x : Bool). ltb b a || (eqb a b && x))
    (two_digits expiry_unit e f (open_unit * o + (most_series - 1 - t)) (open_unit * p + (most_series - 1 - s)) (omega arith) (omega arith)
    ∙ ap (λ (x : Bool). ltb f e || (eqb e f && x))
    (two_digits open_unit o p (most_series - 1 - t) (most_series - 1 - s) (omega arith) (omega arith)
    ∙ ap (λ (x : Bool). ltb p o || (eqb o p && x)) (lower_place t s ht hs)))

rank_small : (d : List ℕ) (s : ℕ) → open_rank d s < 2
rank_small d s = by (is_future (series_type d s))
  where
    by : (b : Bool) → cond b 1 0 < 2
    by true = omega arith
    by false = omega arith

pub key-adds : (d : List ℕ) (n : ℕ → ℤ) (s t : ℕ) → s < most_series → t < most_series → is_coverable (series_type d s) ≡ true
    → key_adds (order_key d n s) (order_key d n t) ≡ adds_before d n s t
unfolding goes_before
key-adds d n s t hs ht es =
    ap (λ (b : Bool). key_adds (cond b (key_of (short_of d n s) (expiry d s) (open_rank d s) s) 0) (order_key d n t)) es ∙ by (is_coverable (series_type d t))
  where
    own : ℕ
    own = key_of (short_of d n s) (expiry d s) (open_rank d s) s

    by : (b : Bool) → key_adds own (cond b (key_of (short_of d n t) (expiry d t) (open_rank d t) t) 0) ≡ cond (b && goes_before d n t s) (short_of d n t) 0
    by true =
        let z : key_of (short_of d n t) (expiry d t) (open_rank d t) t / short_unit ≡ short_of d n t = omega (arith, rank_small d t) in
        λ i.
        cond
        (key_order (short_of d n t) (short_of d n s) (expiry d t) (expiry d s) (open_rank d t) (open_rank d s) t s (omega arith) (omega arith)
        (rank_small d t) (rank_small d s) ht hs i)
        (z i) 0
    by false = ap (λ (b : Bool). cond b 0 0) (le-ltb own 0 (omega arith))
