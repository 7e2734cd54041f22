-- What the steps sum over: the series of a class, by type, and the classes of a group; and what they sum: net × multiplier × price.
use Rattle.std.specs.Prelude.{Bool, ◌&&◌, cond, List, ℕ, eqb, ℤ, pos, neg_ℤ, ◌*ℤ◌}
use Rattle.numbers.specs.Sums.{sum_where}
use Rattle.model.specs.DayFile.{class_count, group, series_type, series_class, multiplier, is_future, is_call, is_put, is_option, is_marked}

-- series s is of class c
abbrev pub of_class : List ℕ → ℕ → ℕ → Bool
of_class d c s = eqb (series_class d s) c

-- .. and of type t
abbrev pub type_of : List ℕ → ℕ → ℕ → ℕ → Bool
type_of d c t s = of_class d c s && eqb (series_type d s) t

-- .. and an open future
abbrev pub future_of : List ℕ → ℕ → ℕ → Bool
future_of d c s = of_class d c s && is_future (series_type d s)

-- .. and an option
abbrev pub option_of : List ℕ → ℕ → ℕ → Bool
option_of d c s = of_class d c s && is_option (series_type d s)

-- .. and marked to market
abbrev pub marked_of : List ℕ → ℕ → ℕ → Bool
marked_of d c s = of_class d c s && is_marked (series_type d s)

-- the sum of an amount over the classes of group g
unfoldable pub over_classes : List ℕ → ℕ → (ℕ → ℤ) → ℤ
over_classes d g f = sum_where (class_count d) (λ c. eqb (group d c) g) f

-- net × multiplier × price
abbrev pub worth : List ℕ → ℕ → ℤ → ℤ → ℤ
worth d s n price = n *ℤ pos (multiplier d s) *ℤ price

-- steps 4 and 5: a difference as a call has it, its negative for a put, none for another type
abbrev pub signed_by_type : ℕ → ℤ → ℤ
signed_by_type t z = cond (is_call t) z (cond (is_put t) (neg_ℤ z) (pos 0))
