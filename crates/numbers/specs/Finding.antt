-- What the library's `find` and `any` say of a range of numbers: the first index at which a test holds. t is what the closure computes.
use Rattle.std.specs.Prelude.{◌≡◌, ℕ, ◌+◌, ◌-◌, ◌<◌, ◌≤◌, Bool, true, false, Option, Some, None, is_some, MatchOption, List, length, get_or, ⊤}
use Rattle.std.proofs.Common.{arith, ap, sym, ◌∙◌}
use Rattle.std.proofs.Math.Path.{refl}
use Rattle.std.proofs.Math.Decide.{dec_le}
use Rattle.std.proofs.iter.Yields.{nat_range_steps}
use Rattle.std.proofs.lemmas.Iterator.{first_from_Range, cases_from_any, YieldsList-from_range}
use Rattle.std.proofs.lemmas.List.FromFn.{length-range_with_len, get_or-range_with_len}
use Rattle.std.specs.Bool.{MatchBool}
use Rattle.std.specs.Fn.{Called, CalledAt}
use Rattle.std.specs.Iterator.{YieldsThen}
use Rattle.std.specs.List.{FoldsTo, range_with_len, AllWithin, HoldsAt}
use denote.Param.Members.{Mut}
use denote.Ref.{Bor}
use Rattle.numbers.specs.Scan.{first_bad, any_below, first-zero, first-none, first-hit, first_clear, first_some}

-- none below a, and what a search from a up to b says
first_by : (t : ℕ → Bool) (a b : ℕ) (r : Option ℕ) → first_bad t a ≡ None → a ≤ b
    → MatchOption r ((k : ℕ) → a ≤ k → k < b → t k ≡ false) (λ i. (a ≤ i) × (i < b) × (t i ≡ true) × ((k : ℕ) → a ≤ k → k < i → t k ≡ false)) → r ≡ first_bad t b
first_by t a b None e l h = sym (first-none t b (λ k p. by k p (dec_le a k)))
  where
    by : (k : ℕ) → k < b → Dec (a ≤ k) → t k ≡ false
    by k p (yes q) = h k q p
    by k p (no q) = first_clear t a e k (omega arith)
first_by t a b (Some i) e l h = sym (first-hit t i b (first-none t i (λ k p. by k p (dec_le a k))) h.2 h.1)
  where
    by : (k : ℕ) → k < i → Dec (a ≤ k) → t k ≡ false
    by k p (yes q) = h.3 k q p
    by k p (no q) = first_clear t a e k (omega arith)

module _ {F : Type 0} {g : Mut F (Bor ℕ × Unit {0}) Bool} {s : _} {f : F} {r : Option ℕ} (u : _) (t : ℕ → Bool)
    (ran : (xs : List ℕ) × (j : F) × YieldsThen nat_range_steps s xs r u × FoldsTo (λ p x q. CalledAt g p x false q) f xs j × MatchOption r ⊤ (λ x. (h : F) × CalledAt g j x true h))
    (computes : (x : ℕ) (v : Bool) (q : F) → CalledAt g f x v q → (q ≡ f) × (v ≡ t x)) where
  -- `(a..b).find`, where the test holds nowhere below a
  pub find_from : first_bad t s.start ≡ None → s.start ≤ s.end → r ≡ first_bad t s.end
  find_from n l =
      first_by t s.start s.end r n l
      (first_from_Range s u f r (λ x. t x ≡ true) (λ x. t x ≡ false) ran
      (λ x q k. sym (computes x true q k).1) (λ x q k. let z = computes x false q k in (z.0, sym z.1)))

  -- `(0..n).find`
  pub find_below : s.start ≡ 0 → r ≡ first_bad t s.end
  find_below e = find_from (ap (first_bad t) e ∙ first-zero t) (omega arith)

-- `(a..b).any`, where the test holds nowhere below a, and `(0..n).any`
module _ {F : Type 0} {g : Mut F (ℕ × Unit {0}) Bool} {s : _} {f : F} {r : Bool} (u : _) (t : ℕ → Bool)
    (ran : (xs : List ℕ) × (o : Option ℕ) × (j : F) × YieldsThen nat_range_steps s xs o u × FoldsTo (λ p x q. Called g p (x, tt) false q) f xs j × MatchOption o (r ≡ false) (λ x. (r ≡ true) × ((h : F) × Called g j (x, tt) true h)))
    (computes : (x : ℕ) (v : Bool) (q : F) → Called g f (x, tt) v q → (q ≡ f) × (v ≡ t x)) where
  abbrev span : List ℕ
  span = range_with_len s.start (s.end - s.start)

  at : (k : ℕ) → k < s.end - s.start → get_or span k 0 ≡ s.start + k
  at k p = get_or-range_with_len s.start (s.end - s.start) k 0 p

  by_cases : (v : Bool) → first_bad t s.start ≡ None → s.start ≤ s.end
      → MatchBool v ((k : ℕ) × (k < length span) × HoldsAt (λ x. t x ≡ true) span k) (AllWithin (λ x. t x ≡ false) span 0 (length span)) → v ≡ any_below s.end t
  by_cases true n l h =
      let p : h.0 < s.end - s.start = omega (arith, h.1, length-range_with_len s.start (s.end - s.start)) in
      sym (first_some t (s.start + h.0) s.end (ap t (sym (at h.0 p)) ∙ h.2 0) (omega arith))
  by_cases false n l h = sym (ap is_some (first-none t s.end (λ k p. by k p (dec_le s.start k))))
    where
      by : (k : ℕ) → k < s.end → Dec (s.start ≤ k) → t k ≡ false
      by k p (yes q) =
          let e : s.start + (k - s.start) ≡ k = omega arith in
          ap t (sym (at (k - s.start) (omega arith) ∙ e)) ∙ h (k - s.start) 0 (omega arith) (omega (arith, length-range_with_len s.start (s.end - s.start)))
      by k p (no q) = first_clear t s.start n k (omega arith)

  pub any_from : first_bad t s.start ≡ None → s.start ≤ s.end → r ≡ any_below s.end t
  any_from n l =
      by_cases r n l
      (cases_from_any u f r (λ x. t x ≡ true) (λ x. t x ≡ false) ran (YieldsList-from_range s.start s.end _ refl refl)
      (λ x q k. sym (computes x true q k).1) (λ x q k. let z = computes x false q k in (z.0, sym z.1)))

  pub any_in : s.start ≡ 0 → r ≡ any_below s.end t
  any_in e = any_from (ap (first_bad t) e ∙ first-zero t) (omega arith)
