-- U5, between steps 1 and 2: deposited shares cover net short futures of their class in the ordinary book, open and expired ones (U9). Steps 2 to 8 have the nets after it; row 30, and which groups have a line, go by the nets before. Words in quotes are the request's.
use Rattle.std.specs.Prelude.{Bool, ◌&&◌, ◌||◌, cond, List, ℕ, ◌-◌, ◌/◌, ltb, ℤ, pos, negsuc}
use Rattle.numbers.specs.Definitions.{sum_n_where, by_place, larger_then}
use Rattle.model.specs.DayFile.{series_count, series_type, series_class, expiry, multiplier, is_future, is_expired}
use Rattle.model.specs.Deposits.{shares_of}
use Rattle.model.specs.Steps.Positions.{open_net}
use Rattle.model.specs.Steps.Classes.{of_class}

-- the types that deposits cover
abbrev pub is_coverable : ℕ → Bool
is_coverable t = is_future t || is_expired t

-- series s is of class c and can be covered
abbrev pub coverable_of : List ℕ → ℕ → ℕ → Bool
coverable_of d c s = of_class d c s && is_coverable (series_type d s)

-- the contracts of a net short, 0 for a net long
abbrev pub short_size : ℤ → ℕ
short_size (pos n) = n
short_size (negsuc n) = 0

-- a net of which k contracts are covered: "no net turns long", and a net long remains
abbrev pub reduced : ℤ → ℕ → ℤ
reduced (pos n) k = pos (n - k)
reduced (negsuc n) k = negsuc n

-- "contracts covered are shares divided by the futures' multiplier, the remainder dropped": the shares of the series' class, whose futures have one multiplier (row 51)
unfoldable pub contracts_covered : List ℕ → List ℕ → ℕ → ℕ
contracts_covered d x s = shares_of d x (series_class d s) / multiplier d s

-- 1 for an open future, 0 for an expired one
abbrev pub open_rank : List ℕ → ℕ → ℕ
open_rank d s = cond (is_future (series_type d s)) 1 0

-- of two equal net shorts, that of t is covered before that of s: "among equals from the further expiry", "where both agree, the open one goes first, then the lower series place" (U9)
abbrev pub among_equals : List ℕ → ℕ → ℕ → Bool
among_equals d = larger_then (expiry d) (larger_then (open_rank d) by_place)

module _ (d : List ℕ) (net : ℕ → ℤ) where
  -- the net short of series s in the ordinary book
  abbrev pub short_of : ℕ → ℕ
  short_of s = short_size (open_net net 0 s)

  -- t is covered before s: "from the largest net short on"
  unfoldable pub goes_before : ℕ → ℕ → Bool
  goes_before t s = larger_then short_of (among_equals d) t s

  -- the net shorts of its class that are covered before that of series s
  unfoldable pub cover_before : ℕ → ℕ
  cover_before s = sum_n_where (series_count d) (λ t. coverable_of d (series_class d s) t && goes_before t s) short_of

-- the net of series s after cover: "a series is used up before the next is touched"
unfoldable pub series_covered : List ℕ → List ℕ → (ℕ → ℤ) → ℕ → ℤ
series_covered d x net s = reduced (open_net net 0 s) (contracts_covered d x s - cover_before d net s)

-- the nets after cover, by position: the keys below the series count are the open positions of the ordinary book
unfoldable pub covered : List ℕ → List ℕ → (ℕ → ℤ) → ℕ → ℤ
covered d x net p = cond (ltb p (series_count d) && is_coverable (series_type d p)) (series_covered d x net p) (net p)
