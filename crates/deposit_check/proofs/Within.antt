-- What the library's `find` and `any` say of the series from a up to b, by a test u of the code: t is the model's test, which is u there and holds nowhere below a.
use Rattle.std.specs.Prelude.{◌≡◌, ℕ, ◌+◌, ◌-◌, ◌<◌, ◌≤◌, Bool, true, false, Option, Some, None, is_some, MatchOption, List, length, ⊤}
use Rattle.std.proofs.Common.{arith, ap, sym, ◌∙◌}
use Rattle.std.proofs.Math.Path.{refl}
use Rattle.std.proofs.Math.Decide.{dec_le}
use Rattle.std.proofs.iter.Yields.{nat_range_steps}
use Rattle.std.proofs.lemmas.Iterator.{first_from_Range, cases_from_any, YieldsList-from_range}
use Rattle.std.proofs.lemmas.List.FromFn.{length-range_with_len, get_or-range_with_len}
use Rattle.std.specs.Bool.{MatchBool}
use Rattle.std.specs.Fn.{Called, CalledAt}
use Rattle.std.specs.Iterator.{YieldsThen}
use Rattle.std.specs.List.{FoldsTo, range_with_len, AllWithin, HoldsAt}
use denote.Param.Members.{Mut}
use denote.Ref.{Bor}
use Rattle.numbers.specs.Scan.{first_bad, any_below, first-none, first-hit, first_clear, first_some}

module _ (t u : ℕ → Bool) (a b : ℕ) (l : a ≤ b) (n : first_bad t a ≡ None) (same : (k : ℕ) → a ≤ k → k < b → t k ≡ u k) where
  -- t holds nowhere below i where u holds nowhere from a up to i
  clear : (i : ℕ) → i ≤ b → ((k : ℕ) → a ≤ k → k < i → u k ≡ false) → first_bad t i ≡ None
  clear i m h = first-none t i (λ k p. by k p (dec_le a k))
    where
      by : (k : ℕ) → k < i → Dec (a ≤ k) → t k ≡ false
      by k p (yes q) = same k q (omega arith) ∙ h k q p
      by k p (no q) = first_clear t a n k (omega arith)

  found : (r : Option ℕ)
      → MatchOption r ((k : ℕ) → a ≤ k → k < b → u k ≡ false) (λ i. (a ≤ i) × (i < b) × (u i ≡ true) × ((k : ℕ) → a ≤ k → k < i → u k ≡ false)) → r ≡ first_bad t b
  found None h = sym (clear b (omega arith) h)
  found (Some i) h = sym (first-hit t i b (clear i (omega (arith, h.1)) h.3) (same i h.0 h.1 ∙ h.2) h.1)

  by_cases : (v : Bool) → MatchBool v ((k : ℕ) × (k < length (range_with_len a (b - a))) × HoldsAt (λ x. u x ≡ true) (range_with_len a (b - a)) k) (AllWithin (λ x. u x ≡ false) (range_with_len a (b - a)) 0 (length (range_with_len a (b - a)))) → v ≡ any_below b t
  by_cases true h =
      let p : h.0 < b - a = omega (arith, h.1, length-range_with_len a (b - a)) in
      sym (first_some t (a + h.0) b (same (a + h.0) (omega arith) (omega arith) ∙ ap u (sym (get_or-range_with_len a (b - a) h.0 0 p)) ∙ h.2 0) (omega arith))
  by_cases false h = sym (ap is_some (clear b (omega arith) by))
    where
      by : (k : ℕ) → a ≤ k → k < b → u k ≡ false
      by k p q =
          let e : a + (k - a) ≡ k = omega arith in
          ap u (sym (get_or-range_with_len a (b - a) (k - a) 0 (omega arith) ∙ e)) ∙ h (k - a) 0 (omega arith) (omega (arith, length-range_with_len a (b - a)))

module _ {F : Type 0} {g : Mut F (Bor ℕ × Unit {0}) Bool} {s : _} {f : F} {r : Option ℕ} (z : _) (t u : ℕ → Bool)
    (ran : (xs : List ℕ) × (j : F) × YieldsThen nat_range_steps s xs r z × FoldsTo (λ p x q. CalledAt g p x false q) f xs j × MatchOption r ⊤ (λ x. (h : F) × CalledAt g j x true h))
    (computes : (x : ℕ) (v : Bool) (q : F) → CalledAt g f x v q → (q ≡ f) × (v ≡ u x)) where
  -- `(a..b).find`
  pub find_within : s.start ≤ s.end → first_bad t s.start ≡ None → ((k : ℕ) → s.start ≤ k → k < s.end → t k ≡ u k) → r ≡ first_bad t s.end
  find_within l n same =
      found t u s.start s.end l n same r
      (first_from_Range s z f r (λ x. u x ≡ true) (λ x. u x ≡ false) ran
      (λ x q k. sym (computes x true q k).1) (λ x q k. let z = computes x false q k in (z.0, sym z.1)))

module _ {F : Type 0} {g : Mut F (ℕ × Unit {0}) Bool} {s : _} {f : F} {r : Bool} (z : _) (t u : ℕ → Bool)
    (ran : (xs : List ℕ) × (o : Option ℕ) × (j : F) × YieldsThen nat_range_steps s xs o z × FoldsTo (λ p x q. Called g p (x, tt) false q) f xs j × MatchOption o (r ≡ false) (λ x. (r ≡ true) × ((h : F) × Called g j (x, tt) true h)))
    (computes : (x : ℕ) (v : Bool) (q : F) → Called g f (x, tt) v q → (q ≡ f) × (v ≡ u x)) where
  -- `(a..b).any`
  pub any_within : s.start ≤ s.end → first_bad t s.start ≡ None → ((k : ℕ) → s.start ≤ k → k < s.end → t k ≡ u k) → r ≡ any_below s.end t
  any_within l n same =
      by_cases t u s.start s.end l n same r
      (cases_from_any z f r (λ x. u x ≡ true) (λ x. u x ≡ false) ran (YieldsList-from_range s.start s.end _ refl refl)
      (λ x q k. sym (computes x true q k).1) (λ x q k. let z = computes x false q k in (z.0, sym z.1)))
