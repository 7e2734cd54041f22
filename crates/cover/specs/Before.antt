-- The net shorts that are covered before that of a series, as a loop over its class's range sums them.
use Rattle.std.specs.Prelude.{◌≡◌, Bool, true, false, ◌&&◌, List, ℤ}
use Rattle.std.proofs.Math.Path.{sym, ap}
use Rattle.std.proofs.Common.{◌∙◌, add-one, eq-eqb}
use Rattle.std.proofs.Math.Bool.{cond}
use Prim.Native.Nat.{ℕ, zero, suc, ◌+◌, ◌*◌, ◌≤◌, ◌<◌}
use native.Mathlib.Omega.{arith}
use Rattle.numbers.specs.Budget.{sum_n, sum_n_where, sum_n-zero}
use Rattle.numbers.specs.Stretch.{sum_n_where_same}
use Rattle.model.specs.Limits.{contracts_limit}
use Rattle.model.specs.DayFile.{series_count, series_class, series_type}
use Rattle.model.specs.Steps.Classes.{of_class}
use Rattle.model.specs.Steps.Cover.{is_coverable, coverable_of, short_of, goes_before, cover_before}
use Rattle.classes.specs.Range.{Range}
use Rattle.classes.specs.Tables.{entry, Given}
use Rattle.cover.specs.Shorts.{short_limit}

-- what series t of the class of series s adds
abbrev pub adds_before : List ℕ → (ℕ → ℤ) → ℕ → ℕ → ℕ
adds_before d n s t = cond (is_coverable (series_type d t) && goes_before d n t s) (short_of d n t) 0

-- series t is of the class of series s, and adds
abbrev counts : List ℕ → (ℕ → ℤ) → ℕ → ℕ → Bool
counts d n s t = coverable_of d (series_class d s) t && goes_before d n t s

-- the sum of the series below m
abbrev pub before_to : List ℕ → (ℕ → ℤ) → ℕ → ℕ → ℕ
before_to d n s m = sum_n_where m (counts d n s) (short_of d n)

module _ (d : List ℕ) (n : ℕ → ℤ) (s a b : ℕ) (r : Range d (series_class d s) a b) where
  out : (t : ℕ) → of_class d (series_class d s) t ≡ false → counts d n s t ≡ false
  out t e = rw e

  pub before_start : 0 ≡ before_to d n s a
  before_start =
      sym (sum_n-zero a (λ t. cond (counts d n s t) (short_of d n t) 0)
      (λ t h. ap (λ (x : Bool). cond x (short_of d n t) 0) (out t (r.before t h))))

  pub before_turn : (t : ℕ) → a ≤ t → t < b → before_to d n s t + adds_before d n s t ≡ before_to d n s (t + 1)
  unfolding sum_n
  before_turn t p q =
      ap (λ (x : Bool). before_to d n s t + cond ((x && is_coverable (series_type d t)) && goes_before d n t s) (short_of d n t) 0)
      (sym (eq-eqb (series_class d t) (series_class d s) (r.here t p q)))
      ∙ sym (rw add-one)

  pub before_end : before_to d n s b ≡ cover_before d n s
  unfolding cover_before
  before_end = sum_n_where_same (counts d n s) b (short_of d n) (series_count d) r.end (λ t p q. out t (r.after t p q))

cond_le : (b : Bool) (x m : ℕ) → x ≤ m → cond b x 0 ≤ m
cond_le true x m h = h
cond_le false x m h = omega arith

module _ (d : List ℕ) (nets : List ℤ) (w : Given d nets) (s : ℕ) where
  pub before-size : (m : ℕ) → m ≤ series_count d → before_to d (entry nets) s m ≤ m * contracts_limit
  unfolding sum_n
  before-size zero h = omega arith
  before-size (suc m) h =
      omega (
        arith,
        before-size m (omega arith),
        cond_le (counts d (entry nets) s m) (short_of d (entry nets) m) contracts_limit (short_limit d nets w m (omega arith)),
      )
