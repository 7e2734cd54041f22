-- Row 14 by a table of the last offset of each group, none where no class has it yet.
use Rattle.std.specs.Prelude.{ℕ, zero, suc, ◌+◌, ◌<◌, ◌≡◌, refl, Bool, true, false, not, List, ◌⊎◌, eqb, length, get_or, set, replicate, is_some, Option, Some, None}
use Rattle.std.proofs.Common.{sym, ◌∙◌, inl, inr, ⊎_elim, arith, length-set, get_or-set_same, get_or-set_other}
use Rattle.std.proofs.Math.Path.{ap}
use Rattle.std.proofs.Math.Decide.{ℕ_discrete}
use borrow.Author.Tests.{eq-eqb, ne_eqb, eqb-true, not-false}
use Rattle.numbers.specs.Scan.{first-none, first_some}
use Rattle.model.specs.DayFile.{group, offset}
use Rattle.model.specs.DayChecks.{offsets_differ, row14}

-- the group has an offset, and o is another
abbrev pub conflict : Option ℕ → ℕ → Bool
conflict (Some l) o = not (eqb l o)
conflict None o = false

-- the classes below c are entered, and no two of one group differ
pub record Table (d : List ℕ) (c : ℕ) (last : List (Option ℕ)) : Type 0 where
  pub size : length last ≡ 32
  pub known : (j : ℕ) → j < c → get_or last (group d j) None ≡ Some (offset d j)
  pub free : (g : ℕ) → (get_or last g None ≡ None) ⊎ ((j : ℕ) × (j < c) × (group d j ≡ g))

rep_none : (n k : ℕ) → ◌≡◌ {A = Option ℕ} (get_or (replicate n None) k None) None
rep_none zero k = refl
rep_none (suc n) zero = refl
rep_none (suc n) (suc k) = rep_none n k

pub start : (d : List ℕ) → Table d 0 (replicate 32 None)
start d = record { size = refl; known = λ j l. absurd (omega arith); free = λ g. inl (rep_none 32 g) }

some_same : {a b : ℕ} → ◌≡◌ {A = Option ℕ} (Some a) (Some b) → a ≡ b
some_same e = cc

none_some : {X : Type 0} {a : ℕ} → ◌≡◌ {A = Option ℕ} None (Some a) → X
none_some e = let z : ◌≡◌ {A = ℕ} 0 1 = cc in absurd (omega arith)

module _ {d : List ℕ} {c : ℕ} {last : List (Option ℕ)} (t : Table d c last) where
  abbrev l : Option ℕ
  l = get_or last (group d c) None

  -- a class before c, of c's group
  same : (j : ℕ) → j < c → group d j ≡ group d c → l ≡ Some (offset d j)
  same j h e = rw (← e) (t.known j h)

  agree : (j : ℕ) → (group d j ≡ group d c → offset d j ≡ offset d c) → Dec (group d j ≡ group d c) → offsets_differ d c j ≡ false
  unfolding offsets_differ
  agree j h (yes e) = rw (eq-eqb (group d j) (group d c) e, eq-eqb (offset d j) (offset d c) (h e))
  agree j h (no n) = rw (ne_eqb (group d j) (group d c) n)

  quiet : ((j : ℕ) → j < c → group d j ≡ group d c → offset d j ≡ offset d c) → row14 d c ≡ false
  unfolding row14
  quiet h = ap is_some (first-none (offsets_differ d c) c (λ j i. agree j (h j i) (ℕ_discrete (group d j) (group d c))))

  loud : (j : ℕ) → j < c → group d j ≡ group d c → (offset d j ≡ offset d c → ⊥) → row14 d c ≡ true
  unfolding row14 offsets_differ
  loud j h e n = first_some (offsets_differ d c) j c (rw (eq-eqb (group d j) (group d c) e, ne_eqb (offset d j) (offset d c) n)) h

  met : (j : ℕ) → j < c → group d j ≡ group d c → Dec (offset d j ≡ offset d c) → conflict l (offset d c) ≡ row14 d c
  met j h e (yes q) =
      rw (same j h e, eq-eqb (offset d j) (offset d c) q) (sym (quiet (λ i p r. some_same (sym (same i p r) ∙ same j h e) ∙ q)))
  met j h e (no n) = rw (same j h e, ne_eqb (offset d j) (offset d c) n) (sym (loud j h e n))

  pub clash : conflict (get_or last (group d c) None) (offset d c) ≡ row14 d c
  clash =
      ⊎_elim (λ z. rw z (sym (quiet (λ i p r. none_some (sym z ∙ same i p r)))))
      (λ w. met w.0 w.1 w.2 (ℕ_discrete (offset d w.0) (offset d c)))
      (t.free (group d c))

  -- where c does not clash, the classes of its group have its offset
  settled : conflict l (offset d c) ≡ false → (j : ℕ) → j < c → group d j ≡ group d c → offset d j ≡ offset d c
  settled e j h r = eqb-true (offset d j) (offset d c) (not-false (eqb (offset d j) (offset d c)) (rw (same j h r) at e))

  module _ (e : conflict l (offset d c) ≡ false) where
    abbrev stored : List (Option ℕ)
    stored = set last (group d c) (Some (offset d c))

    inside : group d c < length last
    inside = omega (arith, t.size)

    known' : (j : ℕ) → j < c + 1 → Dec (j ≡ c) → Dec (group d j ≡ group d c) → get_or stored (group d j) None ≡ Some (offset d j)
    known' j h (yes q) r = rw (q, get_or-set_same last (group d c) (Some (offset d c)) None inside)
    known' j h (no n) (yes r) = rw (r, get_or-set_same last (group d c) (Some (offset d c)) None inside) (ap Some (sym (settled e j (omega arith) r)))
    known' j h (no n) (no m) = rw (get_or-set_other last (group d c) (group d j) (Some (offset d c)) None m) (t.known j (omega arith))

    free' : (g : ℕ) → Dec (g ≡ group d c) → (get_or stored g None ≡ None) ⊎ ((j : ℕ) × (j < c + 1) × (group d j ≡ g))
    free' g (yes q) = inr (c, omega arith, sym q)
    free' g (no n) =
        rw (get_or-set_other last (group d c) g (Some (offset d c)) None n)
        (⊎_elim (λ z. inl z) (λ w. inr (w.0, omega (arith, w.1), w.2)) (t.free g))

    pub enter : Table d (c + 1) (set last (group d c) (Some (offset d c)))
    enter = record {
      size = length-set last (group d c) (Some (offset d c)) ∙ t.size;
      known = λ j h. known' j h (ℕ_discrete j c) (ℕ_discrete (group d j) (group d c));
      free = λ g. free' g (ℕ_discrete g (group d c));
    }
