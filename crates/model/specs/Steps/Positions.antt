-- The positions of a series in one book, open and exercised or assigned: their nets and the DVP.
use Rattle.std.specs.Prelude.{Bool, ◌||◌, ℕ, ltb, ℤ, nat_abs}
use Rattle.model.specs.Netting.{position}

abbrev pub not_zero : ℤ → Bool
not_zero z = ltb 0 (nat_abs z)

-- the net of the open position of series s in this book
abbrev pub open_net : (ℕ → ℤ) → ℕ → ℕ → ℤ
open_net net book s = net (position book 0 s)

-- the net of its exercised or assigned position
abbrev pub exercised_net : (ℕ → ℤ) → ℕ → ℕ → ℤ
exercised_net net book s = net (position book 1 s)

-- the DVP of its open position; only securities have one (rows 24 and 26)
abbrev pub open_dvp : (ℕ → ℤ) → ℕ → ℕ → ℤ
open_dvp dvp book s = dvp (position book 0 s)

-- step 9: the position with key p has net or DVP not zero
abbrev pub held : (ℕ → ℤ) → (ℕ → ℤ) → ℕ → Bool
held net dvp p = not_zero (net p) || not_zero (dvp p)
