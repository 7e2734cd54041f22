-- A table of flags by key: flag p is set where some index below n has key p and passes a test. One more index touches its own flag.
use Rattle.std.specs.Prelude.{◌≡◌, refl, Bool, true, false, ◌&&◌, ◌||◌, List, ℕ, ◌+◌, ◌<◌, eqb, set, replicate, is_some}
use Rattle.std.proofs.Common.{sym, ap, ◌∙◌, eq-eqb, ne_eqb}
use Rattle.numbers.specs.Tests.{or_true, or_false, and_true}
use Rattle.numbers.specs.Scan.{any_below, any_none, any_more, first_ext}
use Rattle.numbers.specs.Table.{tabulate, tabulate_ext, tabulate-set, replicate_tabulate}

abbrev pub flag : (ℕ → ℕ) → (ℕ → Bool) → ℕ → ℕ → Bool
flag key t n p = any_below n (λ r. eqb (key r) p && t r)

abbrev pub flags : ℕ → (ℕ → ℕ) → (ℕ → Bool) → ℕ → List Bool
flags m key t n = tabulate m (flag key t n)

module _ (m : ℕ) (key : ℕ → ℕ) (t : ℕ → Bool) where
  pub flags-none : replicate m false ≡ flags m key t 0
  flags-none = replicate_tabulate m false ∙ tabulate_ext m (λ p. false) (flag key t 0) (λ p h. sym (any_none (λ r. eqb (key r) p && t r)))

  pub flags_more : (r : ℕ) → key r < m → set (flags m key t r) (key r) (flag key t r (key r) || t r) ≡ flags m key t (r + 1)
  flags_more r h =
      tabulate-set m (flag key t r) (flag key t (r + 1)) (key r) (flag key t r (key r) || t r) h
      (sym (more (key r) true (eq-eqb (key r) (key r) refl)))
      (λ p l q. sym (more p false (ne_eqb (key r) p (λ e. q (sym e))) ∙ or_false (flag key t r p)))
    where
      more : (p : ℕ) (b : Bool) → eqb (key r) p ≡ b → flag key t (r + 1) p ≡ (flag key t r p || (b && t r))
      more p b e = any_more (λ q. eqb (key q) p && t q) r ∙ ap (λ (x : Bool). flag key t r p || (x && t r)) e

  -- an index that passes
  pub flags-set : (r : ℕ) → key r < m → t r ≡ true → set (flags m key t r) (key r) true ≡ flags m key t (r + 1)
  flags-set r h e =
      ap (set (flags m key t r) (key r)) (sym (ap (λ (x : Bool). flag key t r (key r) || x) e ∙ or_true (flag key t r (key r)))) ∙ flags_more r h

-- with no test but the key's
pub flag-key : (key : ℕ → ℕ) (n p : ℕ) → flag key (λ r. true) n p ≡ any_below n (λ r. eqb (key r) p)
flag-key key n p = ap is_some (first_ext _ (λ r. eqb (key r) p) n (λ r h. and_true (eqb (key r) p)))
