-- The definitions that the model rests on, apart from their laws: sums, the first index that passes a test, extremes, lists by index, sets as numbers, writing.
use Rattle.std.specs.Prelude.{Bool, true, false, ◌&&◌, ◌||◌, cond, List, [], ◌∷◌, ◌++◌, ℕ, zero, suc, ◌+◌, ◌/◌, ◌%◌, ◌^◌, ltb, eqb, ℤ, pos, nat_abs, ◌+ℤ◌, length, take, drop, Option, Some, None, is_some}
use Rattle.std.specs.Int.Signed.{lt_z}

-- ---- sums over the indices below n (laws: Sums)

unfoldable pub sum_to : ℕ → (ℕ → ℤ) → ℤ
sum_to zero f = pos 0
sum_to (suc n) f = sum_to n f +ℤ f n

-- over those at which a test holds
abbrev pub sum_where : ℕ → (ℕ → Bool) → (ℕ → ℤ) → ℤ
sum_where n t f = sum_to n (λ i. cond (t i) (f i) (pos 0))

-- the same of naturals (laws: Budget)
unfoldable pub sum_n : ℕ → (ℕ → ℕ) → ℕ
sum_n zero f = 0
sum_n (suc n) f = sum_n n f + f n

abbrev pub sum_n_where : ℕ → (ℕ → Bool) → (ℕ → ℕ) → ℕ
sum_n_where n t f = sum_n n (λ i. cond (t i) (f i) 0)

-- ---- the first index below n at which a test holds, or none (laws: Scan)

-- what a scan that stood at a place says with index n looked at, whose test gave b
abbrev pub next : Option ℕ → Bool → ℕ → Option ℕ
next (Some k) b n = Some k
next None true n = Some n
next None false n = None

unfoldable pub first_bad : (ℕ → Bool) → ℕ → Option ℕ
first_bad t zero = None
first_bad t (suc n) = next (first_bad t n) (t n) n

-- the same by another name, where what is looked for is no offence
abbrev pub first_where : (ℕ → Bool) → ℕ → Option ℕ
first_where t n = first_bad t n

-- the test holds at some index below n
abbrev pub any_below : ℕ → (ℕ → Bool) → Bool
any_below n t = is_some (first_bad t n)

-- ---- orders of indices, as a test whether i goes before j (laws: Order)

-- the lower index first
abbrev pub by_place : ℕ → ℕ → Bool
by_place i j = ltb i j

-- the larger x first, and r among equals
abbrev pub larger_then : (ℕ → ℕ) → (ℕ → ℕ → Bool) → ℕ → ℕ → Bool
larger_then x r i j = ltb (x j) (x i) || (eqb (x i) (x j) && r i j)

-- ---- the smaller and the larger of two integers, the size of one, the largest of some and 0 (laws: Extremes)

abbrev pub min_z : ℤ → ℤ → ℤ
min_z x y = cond (lt_z x y) x y

abbrev pub max_z : ℤ → ℤ → ℤ
max_z x y = cond (lt_z x y) y x

abbrev pub abs_z : ℤ → ℤ
abs_z z = pos (nat_abs z)

-- of f 0, .., f (n − 1), or 0 if none is positive
unfoldable pub largest : ℕ → (ℕ → ℤ) → ℤ
largest zero f = pos 0
largest (suc n) f = max_z (largest n f) (f n)

-- ---- the highest of f 0, .., f n, and the earliest index that has it: one that only equals the highest so far does not replace it (laws: Highest)

unfoldable pub highest : (ℕ → ℤ) → ℕ → ℤ
highest f zero = f 0
highest f (suc n) = max_z (highest f n) (f (suc n))

unfoldable pub earliest : (ℕ → ℤ) → ℕ → ℕ
earliest f zero = 0
earliest f (suc n) = cond (lt_z (highest f n) (f (suc n))) (suc n) (earliest f n)

-- ---- a set of numbers below n, given by a test (laws: Maps)

-- as one number, whose bit i says whether the test holds at i
unfoldable pub map_below : (ℕ → Bool) → ℕ → ℕ
map_below t zero = 0
map_below t (suc i) = map_below t i + cond (t i) (2 ^ i) 0

abbrev pub bit_at : ℕ → ℕ → ℕ
bit_at m i = m / 2 ^ i % 2

-- the blocks L i of its members, one behind the other
unfoldable pub blocks : (ℕ → Bool) → (ℕ → List ℕ) → ℕ → List ℕ
blocks t L zero = []
blocks t L (suc i) = blocks t L i ++ cond (t i) (L i) []

-- ---- lists

module _ {A : Type 0} where
  -- f 0, .., f (n − 1) (laws: Table)
  unfoldable pub tabulate : ℕ → (ℕ → A) → List A
  tabulate zero f = []
  tabulate (suc n) f = f 0 ∷ tabulate n (λ i. f (suc i))

  -- l with w written over it from place `at` on (laws: Put)
  unfoldable pub put : ℕ → List A → List A → List A
  put at w l = take at l ++ (w ++ drop (at + length w) l)

  -- lists one behind the other (laws: Chosen)
  unfoldable pub joined : List (List A) → List A
  joined [] = []
  joined (b ∷ l) = b ++ joined l

  -- of f 0, .., f (n − 1) those whose number passes a test (laws: Chosen)
  unfoldable pub chosen : (ℕ → Bool) → (ℕ → A) → ℕ → List A
  chosen t f zero = []
  chosen t f (suc n) = chosen t f n ++ cond (t n) (f n ∷ []) []

module _ {A : Type 0} (t : A → Bool) where
  -- the members that pass a test (laws: Lists)
  unfoldable pub keep : List A → List A
  keep [] = []
  keep (a ∷ l) = cond (t a) (a ∷ keep l) (keep l)
