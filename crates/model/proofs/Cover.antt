-- Laws of cover: which nets it changes, none to a larger one; and without a deposit none at all.
use Rattle.std.specs.Prelude.{Ok}
use mathlib.Core.Path.{◌≡◌, refl, sym, ap, ◌∙◌, fun_ext}
use mathlib.Core.Bool.{Bool, true, false, ◌&&◌, cond}
use mathlib.Core.List.{List, []}
use Prim.Native.Nat.{ℕ, ◌-◌, ◌/◌, ◌≤◌, ◌<◌}
use native.Mathlib.Nat.{zero-div}
use native.Mathlib.Omega.{arith}
use borrow.Author.Tests.{lt-ltb, le-ltb}
use lib.Dec.{ltb}
use lib.IntN.{ℤ, pos, negsuc, nat_abs}
use Rattle.numbers.specs.Scan.{first_bad}
use Rattle.numbers.specs.Budget.{sum_n}
use Rattle.model.specs.Rows.{tried}
use Rattle.model.specs.DayFile.{series_count, series_type, series_class, multiplier}
use Rattle.model.specs.Netting.{position}
use Rattle.model.specs.Deposits.{shares_of}
use Rattle.model.specs.DepositChecks.{odd_words, deposit_check}
use Rattle.model.specs.Steps
use Rattle.model.proofs.Records.{Budget, budget_less}

-- ---- one net

reduced-none : (z : ℤ) → Steps.reduced z 0 ≡ z
reduced-none (pos n) = ap pos (omega arith)
reduced-none (negsuc n) = refl

reduced_abs : (z : ℤ) (k : ℕ) → nat_abs (Steps.reduced z k) ≤ nat_abs z
reduced_abs (pos n) k = omega arith
reduced_abs (negsuc n) k = omega arith

-- the key of an open position of the ordinary book is its series' place
pub open_key : (s : ℕ) → position 0 0 s ≡ s
open_key s = omega arith

module _ (d x : List ℕ) (net : ℕ → ℤ) where
  -- ---- which positions change

  pub covered-future : (s : ℕ) → s < series_count d → Steps.is_coverable (series_type d s) ≡ true → Steps.covered d x net (position 0 0 s) ≡ Steps.series_covered d x net s
  unfolding Steps.covered
  covered-future s h e =
      ap (λ (p : ℕ). cond (ltb p (series_count d) && Steps.is_coverable (series_type d p)) (Steps.series_covered d x net p) (net p)) (open_key s)
      ∙ ap (λ (t : Bool). cond (t && Steps.is_coverable (series_type d s)) (Steps.series_covered d x net s) (net s)) (lt-ltb s (series_count d) h)
      ∙ ap (λ (t : Bool). cond t (Steps.series_covered d x net s) (net s)) e

  pub covered_above : (p : ℕ) → series_count d ≤ p → Steps.covered d x net p ≡ net p
  unfolding Steps.covered
  covered_above p h = rw (le-ltb p (series_count d) h)

  pub covered_none : (p : ℕ) → Steps.is_coverable (series_type d p) ≡ false → Steps.covered d x net p ≡ net p
  unfolding Steps.covered
  covered_none p e = by (ltb p (series_count d)) (Steps.is_coverable (series_type d p)) e
    where
      by : (t u : Bool) → u ≡ false → cond (t && u) (Steps.series_covered d x net p) (net p) ≡ net p
      by true u e = rw e
      by false u e = refl

  -- every net after cover is a net of which some contracts are covered
  pub is_reduced : (p : ℕ) → (k : ℕ) × (Steps.covered d x net p ≡ Steps.reduced (net p) k)
  unfolding Steps.covered Steps.series_covered
  is_reduced p = by (ltb p (series_count d) && Steps.is_coverable (series_type d p))
    where
      by : (t : Bool) → (k : ℕ) × (cond t (Steps.reduced (net (position 0 0 p)) (Steps.contracts_covered d x p - Steps.cover_before d net p)) (net p) ≡ Steps.reduced (net p) k)
      by true = (
        Steps.contracts_covered d x p - Steps.cover_before d net p,
        ap (λ (q : ℕ). Steps.reduced (net q) (Steps.contracts_covered d x p - Steps.cover_before d net p)) (open_key p),
      )
      by false = (0, sym (reduced-none (net p)))

  -- none grows
  pub never_more_lem : (p : ℕ) → nat_abs (Steps.covered d x net p) ≤ nat_abs (net p)
  never_more_lem p = let r = is_reduced p in rw r.1 (reduced_abs (net p) r.0)

  -- so whatever bounds the nets bounds them after cover
  pub cover_budget : (v : ℕ → ℤ) → Budget d net v → Budget d (Steps.covered d x net) v
  cover_budget v = budget_less d net (Steps.covered d x net) v never_more_lem

  -- ---- no deposit of a class, and none at all

  series_kept : (s : ℕ) → shares_of d x (series_class d s) ≡ 0 → Steps.series_covered d x net s ≡ Steps.open_net net 0 s
  unfolding Steps.series_covered Steps.contracts_covered
  series_kept s e =
      ap (λ (k : ℕ). Steps.reduced (Steps.open_net net 0 s) (k / multiplier d s - Steps.cover_before d net s)) e
      ∙ ap (λ (k : ℕ). Steps.reduced (Steps.open_net net 0 s) (k - Steps.cover_before d net s)) (zero-div (multiplier d s))
      ∙ ap (Steps.reduced (Steps.open_net net 0 s)) (omega arith)
      ∙ reduced-none (Steps.open_net net 0 s)

  pub covered_kept : (p : ℕ) → shares_of d x (series_class d p) ≡ 0 → Steps.covered d x net p ≡ net p
  unfolding Steps.covered
  covered_kept p e = by (ltb p (series_count d) && Steps.is_coverable (series_type d p))
    where
      by : (t : Bool) → cond t (Steps.series_covered d x net p) (net p) ≡ net p
      by true = series_kept p e ∙ ap net (open_key p)
      by false = refl

no_shares : (d : List ℕ) (c : ℕ) → shares_of d [] c ≡ 0
unfolding shares_of sum_n
no_shares d c = refl

-- the program, the byte call and the call for many accounts pass none
pub covered_no_deposits : (d : List ℕ) (net : ℕ → ℤ) → Steps.covered d [] net ≡ net
covered_no_deposits d net = fun_ext (λ p. covered_kept d [] net p (no_shares d (series_class d p)))

-- and meet no row
pub no_deposits_pass : (d : List ℕ) → deposit_check d [] ≡ Ok tt
unfolding deposit_check odd_words first_bad tried
no_deposits_pass d = refl
