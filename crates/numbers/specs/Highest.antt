-- Laws of the highest of f 0, .., f n, and of the earliest index that has it.
use Rattle.std.specs.Prelude.{◌≡◌, refl, Bool, true, false, cond, ℕ, zero, suc, ◌+◌, ◌≤◌, ◌<◌, T, ℤ, ◌≤ℤ◌, ◌<ℤ◌}
use Rattle.std.proofs.Math.Path.{sym, subst}
use Rattle.std.proofs.Common.{arith, le_refl, true≢false, add-one}
use Rattle.std.proofs.Math.Decide.{dec_lt, dec_le}
use Rattle.std.specs.Int.Signed.{lt_z}
use Rattle.numbers.specs.Line.{line, up, dn, lt_of}
use Rattle.numbers.specs.Extremes.{max_z}
unfoldable pub use Rattle.numbers.specs.Definitions.{highest, earliest}

-- ---- as a loop meets them, at its n + 1

pub highest_more : (f : ℕ → ℤ) (n : ℕ) → highest f (n + 1) ≡ max_z (highest f n) (f (n + 1))
unfolding highest
highest_more f n = rw add-one refl

pub earliest_more : (f : ℕ → ℤ) (n : ℕ) → earliest f (n + 1) ≡ cond (lt_z (highest f n) (f (n + 1))) (n + 1) (earliest f n)
unfolding earliest
earliest_more f n = rw add-one refl

-- ---- what they are

above : (x y : ℤ) → lt_z x y ≡ true → x <ℤ y
above x y e = record { lt = subst T (sym e) tt }

not_above : (x y : ℤ) → lt_z x y ≡ false → y ≤ℤ x
not_above x y e = by (dec_lt (up x + dn y) (up y + dn x))
  where
    never : (b : Bool) → b ≡ false → T b → ⊥
    never true p q = true≢false p
    never false p q = q

    by : Dec (up x + dn y < up y + dn x) → y ≤ℤ x
    by (yes h) = absurd (never (lt_z x y) e (lt_of x y h).lt)
    by (no h) = omega line

module _ (f : ℕ → ℤ) where
  pub earliest_below : (n : ℕ) → earliest f n ≤ n
  unfolding earliest
  earliest_below zero = omega arith
  earliest_below (suc n) = by (lt_z (highest f n) (f (suc n))) (earliest_below n)
    where
      by : (b : Bool) → earliest f n ≤ n → cond b (suc n) (earliest f n) ≤ suc n
      by true h = le_refl (suc n)
      by false h = omega arith

  pub earliest_at : (n : ℕ) → f (earliest f n) ≡ highest f n
  unfolding earliest highest
  earliest_at zero = refl
  earliest_at (suc n) = by (lt_z (highest f n) (f (suc n))) (earliest_at n)
    where
      by : (b : Bool) → f (earliest f n) ≡ highest f n → f (cond b (suc n) (earliest f n)) ≡ cond b (f (suc n)) (highest f n)
      by true h = refl
      by false h = h

  pub highest_above : (n i : ℕ) → i ≤ n → f i ≤ℤ highest f n
  unfolding highest
  highest_above zero i h = let e : i ≡ 0 = omega arith in subst (λ (j : ℕ). f j ≤ℤ f 0) (sym e) (omega line)
  highest_above (suc n) i h = by (lt_z (highest f n) (f (suc n))) refl (dec_le i n) (λ l. highest_above n i l)
    where
      last : (b : Bool) → lt_z (highest f n) (f (suc n)) ≡ b → f (suc n) ≤ℤ cond b (f (suc n)) (highest f n)
      last true e = omega line
      last false e = not_above (highest f n) (f (suc n)) e

      by : (b : Bool) → lt_z (highest f n) (f (suc n)) ≡ b → Dec (i ≤ n) → (i ≤ n → f i ≤ℤ highest f n) → f i ≤ℤ cond b (f (suc n)) (highest f n)
      by true e (yes l) r = omega (line, r l, above (highest f n) (f (suc n)) e)
      by false e (yes l) r = r l
      by b e (no l) r = let q : i ≡ suc n = omega arith in subst (λ (j : ℕ). f j ≤ℤ cond b (f (suc n)) (highest f n)) (sym q) (last b e)

  pub earliest_first : (n i : ℕ) → i < earliest f n → f i <ℤ highest f n
  unfolding highest earliest
  earliest_first zero i h = absurd (omega arith)
  earliest_first (suc n) i h = by (lt_z (highest f n) (f (suc n))) refl h (λ l. earliest_first n i l)
    where
      by : (b : Bool) → lt_z (highest f n) (f (suc n)) ≡ b → i < cond b (suc n) (earliest f n) → (i < earliest f n → f i <ℤ highest f n) → f i <ℤ cond b (f (suc n)) (highest f n)
      by true e l r = omega (line, highest_above n i (omega arith), above (highest f n) (f (suc n)) e)
      by false e l r = r l

  -- it is 0, or one at which f rises above all before it
  pub earliest_rises : (n j : ℕ) → earliest f n ≡ suc j → highest f j <ℤ f (suc j)
  unfolding earliest
  earliest_rises zero j e = absurd (omega arith)
  earliest_rises (suc n) j e = by (lt_z (highest f n) (f (suc n))) refl e (λ h. earliest_rises n j h)
    where
      by : (b : Bool) → lt_z (highest f n) (f (suc n)) ≡ b → cond b (suc n) (earliest f n) ≡ suc j → (earliest f n ≡ suc j → highest f j <ℤ f (suc j)) → highest f j <ℤ f (suc j)
      by true q h r = let k : n ≡ j = omega arith in subst (λ (m : ℕ). highest f m <ℤ f (suc m)) k (above (highest f n) (f (suc n)) q)
      by false q h r = r h
