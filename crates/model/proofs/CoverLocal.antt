-- The nets after cover of a group depend on the group's nets in the ordinary book and on the deposits of its classes alone; the order of the deposits does not matter.
use mathlib.Core.Path.{◌≡◌, refl, sym, ap, ◌∙◌}
use mathlib.Core.Bool.{Bool, true, false, not, ◌&&◌, ◌||◌, cond}
use mathlib.Core.List.{List, Perm}
use Prim.Native.Nat.{ℕ, zero, suc, ◌-◌, ◌/◌, ◌≤◌, ◌<◌}
use native.Mathlib.Omega.{arith}
use borrow.Author.Tests.{eqb-true, ne_eqb, not-false}
use lib.Dec.{eqb, ltb}
use lib.IntN.{ℤ, pos, nat_abs}
use lib.ListN.{get_or}
use Rattle.numbers.specs.Budget.{sum-pos, sum_n_ext}
use Rattle.numbers.specs.Lists.{sum-keep}
use Rattle.numbers.specs.Perms.{sum_of, sum_to_of, sum-perm}
use Rattle.model.specs.DayFile.{series_count, series_type, series_class, series_group, group, multiplier, class_place}
use Rattle.model.specs.Limits.{most_series}
use Rattle.model.specs.Netting.{places, position}
use Rattle.model.specs.Deposits.{deposit_count, named_number, shares, shares_of}
use Rattle.model.specs.Steps
use Rattle.model.specs.Locality.{deposit_at, deposits, deposit_of_line, struck_deposits}
use Rattle.numbers.specs.Tests.{and_left, and_right}
use Rattle.model.proofs.Lines.{Agree}
use Rattle.model.proofs.Whole.{AllAgree}
use Rattle.model.proofs.Cover.{open_key, covered-future, covered_above, covered_none}

-- ---- the nets after cover

covered_open : (d x : List ℕ) (n : ℕ → ℤ) (s : ℕ) → s < series_count d → (t : Bool) → Steps.is_coverable (series_type d s) ≡ t
    → Steps.covered d x n (position 0 0 s) ≡ cond t (Steps.series_covered d x n s) (n (position 0 0 s))
covered_open d x n s h true e = covered-future d x n s h e
covered_open d x n s h false e = ap (Steps.covered d x n) (open_key s) ∙ covered_none d x n s e ∙ ap n (sym (open_key s))

module _ (d x₁ x₂ : List ℕ) (n₁ v₁ n₂ v₂ : ℕ → ℤ) (g : ℕ) (a : Agree d n₁ v₁ n₂ v₂ 0 g)
    (deposited : (c : ℕ) → group d c ≡ g → shares_of d x₁ c ≡ shares_of d x₂ c) where
  module _ (s : ℕ) (hs : s < series_count d) (e : series_group d s ≡ g) where
    own : group d (series_class d s) ≡ g
    unfolding series_group
    own = e

    net_at : (t : ℕ) → t < series_count d → Steps.coverable_of d (series_class d s) t ≡ true → Steps.open_net n₁ 0 t ≡ Steps.open_net n₂ 0 t
    unfolding series_group
    net_at t h q =
        a.nets t 0 h (omega arith)
        (ap (group d) (eqb-true (series_class d t) (series_class d s) (and_left (Steps.of_class d (series_class d s) t) (Steps.is_coverable (series_type d t)) q)) ∙ own)

    term_same : (t : ℕ) (b : Bool) → (b ≡ true → Steps.open_net n₁ 0 t ≡ Steps.open_net n₂ 0 t)
        → cond (b && Steps.goes_before d n₁ t s) (Steps.short_of d n₁ t) 0 ≡ cond (b && Steps.goes_before d n₂ t s) (Steps.short_of d n₂ t) 0
    unfolding Steps.goes_before
    term_same t true h =
        let p = a.nets s 0 hs (omega arith) e in
        let q = h refl in
        λ i.
        cond
        (ltb (Steps.short_size (p i)) (Steps.short_size (q i))
        || (eqb (Steps.short_size (q i)) (Steps.short_size (p i)) && Steps.among_equals d t s))
        (Steps.short_size (q i)) 0
    term_same t false h = refl

    before_same : Steps.cover_before d n₁ s ≡ Steps.cover_before d n₂ s
    unfolding Steps.cover_before
    before_same = sum_n_ext (series_count d) _ _ (λ t h. term_same t (Steps.coverable_of d (series_class d s) t) (net_at t h))

    series_same : Steps.series_covered d x₁ n₁ s ≡ Steps.series_covered d x₂ n₂ s
    unfolding Steps.series_covered Steps.contracts_covered
    series_same =
        let p = a.nets s 0 hs (omega arith) e in
        let q = deposited (series_class d s) own in
        λ i. Steps.reduced (p i) (q i / multiplier d s - before_same i)

  open_same : (s : ℕ) → s < series_count d → series_group d s ≡ g → Steps.covered d x₁ n₁ (position 0 0 s) ≡ Steps.covered d x₂ n₂ (position 0 0 s)
  open_same s hs e =
      covered_open d x₁ n₁ s hs (Steps.is_coverable (series_type d s)) refl
      ∙ (λ i. cond (Steps.is_coverable (series_type d s)) (series_same s hs e i) (a.nets s 0 hs (omega arith) e i))
      ∙ sym (covered_open d x₂ n₂ s hs (Steps.is_coverable (series_type d s)) refl)

-- two families of nets that agree on a group of a book agree on it after cover, where its classes have the same shares, if the book is the ordinary
pub cover_agree : (d x₁ x₂ : List ℕ) (n₁ v₁ n₂ v₂ : ℕ → ℤ) (k g : ℕ) → series_count d ≤ most_series
    → (k ≡ 0 → (c : ℕ) → group d c ≡ g → shares_of d x₁ c ≡ shares_of d x₂ c)
    → Agree d n₁ v₁ n₂ v₂ k g → Agree d (Steps.covered d x₁ n₁) v₁ (Steps.covered d x₂ n₂) v₂ k g
cover_agree d x₁ x₂ n₁ v₁ n₂ v₂ k g few q a = record { nets = λ s y hs hy e. by k y s hs hy e q a; dvps = a.dvps }
  where
    above : (k y s : ℕ) → s < series_count d → y < 2 → series_group d s ≡ g → Agree d n₁ v₁ n₂ v₂ k g → places ≤ position k y s
        → Steps.covered d x₁ n₁ (position k y s) ≡ Steps.covered d x₂ n₂ (position k y s)
    above k y s hs hy e a h = covered_above d x₁ n₁ (position k y s) (omega arith) ∙ a.nets s y hs hy e ∙ sym (covered_above d x₂ n₂ (position k y s) (omega arith))

    by : (k y s : ℕ) → s < series_count d → y < 2 → series_group d s ≡ g → (k ≡ 0 → (c : ℕ) → group d c ≡ g → shares_of d x₁ c ≡ shares_of d x₂ c)
        → Agree d n₁ v₁ n₂ v₂ k g → Steps.covered d x₁ n₁ (position k y s) ≡ Steps.covered d x₂ n₂ (position k y s)
    by zero zero s hs hy e q a = open_same d x₁ x₂ n₁ v₁ n₂ v₂ g a (q refl) s hs e
    by zero (suc y) s hs hy e q a = above 0 (suc y) s hs hy e a (omega arith)
    by (suc k) y s hs hy e q a = above (suc k) y s hs hy e a (omega arith)

-- so do they on every line, with the same deposits
pub cover_agrees : (d x : List ℕ) (n₁ v₁ n₂ v₂ : ℕ → ℤ) → series_count d ≤ most_series → AllAgree d n₁ v₁ n₂ v₂ → AllAgree d (Steps.covered d x n₁) v₁ (Steps.covered d x n₂) v₂
cover_agrees d x n₁ v₁ n₂ v₂ few a k g hk hg = cover_agree d x x n₁ v₁ n₂ v₂ k g few (λ z c q. refl) (a k g hk hg)

-- ---- the shares of a class as a sum over the list of deposits

abbrev shares_in : List ℕ → ℕ → List ℕ → ℤ
shares_in d c r = cond (eqb (class_place d (get_or r 0 0)) c) (pos (get_or r 1 0)) (pos 0)

shares_sum : (d x : List ℕ) (c : ℕ) → pos (shares_of d x c) ≡ sum_of (shares_in d c) (deposits x)
unfolding shares_of
shares_sum d x c =
    sym (sum-pos (deposit_count x) (λ i. eqb (class_place d (named_number x i)) c) (shares x)) ∙ sum_to_of (shares_in d c) (deposit_count x) (deposit_at x)

shares_order : (d x₁ x₂ : List ℕ) → Perm (deposits x₁) (deposits x₂) → (c : ℕ) → shares_of d x₁ c ≡ shares_of d x₂ c
shares_order d x₁ x₂ p c =
    ap nat_abs (shares_sum d x₁ c ∙ sum-perm (shares_in d c) (deposits x₁) (deposits x₂) p ∙ sym (shares_sum d x₂ c))

pub cover_order : (d x₁ x₂ : List ℕ) → Perm (deposits x₁) (deposits x₂) → (n : ℕ → ℤ) → Steps.covered d x₁ n ≡ Steps.covered d x₂ n
unfolding Steps.covered Steps.series_covered Steps.contracts_covered
cover_order d x₁ x₂ p n =
    λ i q.
    cond (ltb q (series_count d) && Steps.is_coverable (series_type d q))
    (Steps.reduced (Steps.open_net n 0 q) (shares_order d x₁ x₂ p (series_class d q) i / multiplier d q - Steps.cover_before d n q)) (n q)

-- deposits of group g in book k struck: a class that is not of both keeps its shares
pub shares_kept : (d x₁ x₂ : List ℕ) (g k c : ℕ) → Perm (struck_deposits d g k x₁) (struck_deposits d g k x₂) → (group d c ≡ g → 0 ≡ k → ⊥)
    → shares_of d x₁ c ≡ shares_of d x₂ c
shares_kept d x₁ x₂ g k c p other =
    ap nat_abs
    (shares_sum d x₁ c
    ∙ sym (sum-keep (λ r. not (deposit_of_line d g k r)) (shares_in d c) none (deposits x₁))
    ∙ sum-perm (shares_in d c) (struck_deposits d g k x₁) (struck_deposits d g k x₂) p
    ∙ sum-keep (λ r. not (deposit_of_line d g k r)) (shares_in d c) none (deposits x₂)
    ∙ sym (shares_sum d x₂ c))
  where
    none : (r : List ℕ) → not (deposit_of_line d g k r) ≡ false → shares_in d c r ≡ pos 0
    none r e =
        let o = not-false (deposit_of_line d g k r) e in
        let x = eqb-true (group d (class_place d (get_or r 0 0))) g (and_left (eqb (group d (class_place d (get_or r 0 0))) g) (eqb 0 k) o) in
        let y = eqb-true 0 k (and_right (eqb (group d (class_place d (get_or r 0 0))) g) (eqb 0 k) o) in
        ap (λ (t : Bool). cond t (pos (get_or r 1 0)) (pos 0))
        (ne_eqb (class_place d (get_or r 0 0)) c (λ z. other (ap (group d) (sym z) ∙ x) y))
