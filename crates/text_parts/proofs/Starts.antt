-- What the library finds in a text, in the model's words.
use Rattle.std.proofs.Common.{◌≡◌, refl, sym, ◌&&◌, Bool, true, false, cond, ℕ, suc, ◌+◌, ◌≤◌, ◌<◌, List, [], ◌∷◌, length, arith, ltb-true, ltb-false, eq-eqb, ne_eqb}
use Rattle.std.specs.Prelude.{eqb, ltb, Some, None}
use Rattle.std.specs.List.{starts_with, position, position_or_len}
use borrow.Author.Tests.{eqb-true, eqb-false}
use Rattle.model.specs.TextReading.{begins, line_bytes}

eqb_turned : (a b : ℕ) → eqb a b ≡ eqb b a
eqb_turned a b = by (eqb a b) refl
  where
    by : (t : Bool) → eqb a b ≡ t → t ≡ eqb b a
    by true e = sym (eq-eqb b a (sym (eqb-true a b e)))
    by false e = sym (ne_eqb b a (λ h. eqb-false a b e (sym h)))

-- a head compared by the library is what a text begins with
pub starts-begins : (h t : List ℕ) → starts_with eqb t h ≡ begins h t
starts-begins [] t = refl
starts-begins (h ∷ hs) [] = refl
starts-begins (h ∷ hs) (c ∷ cs) = λ i. eqb_turned h c i && starts-begins hs cs i

-- ---- the first line, by its newline

abbrev newline_at : List ℕ → ℕ
newline_at t = position_or_len (λ c. eqb c 10) t

line_ended : (t : List ℕ) → (newline_at t < length t → line_bytes t ≡ newline_at t + 1) × (length t ≤ newline_at t → line_bytes t ≡ length t)
unfolding line_bytes
line_ended [] = (λ h. absurd (omega arith), λ h. refl)
line_ended (c ∷ t) = by (eqb c 10) refl (line_ended t)
  where
    by : (b : Bool) → eqb c 10 ≡ b → (newline_at t < length t → line_bytes t ≡ newline_at t + 1) × (length t ≤ newline_at t → line_bytes t ≡ length t)
        → (newline_at (c ∷ t) < length (c ∷ t) → cond b 1 (suc (line_bytes t)) ≡ newline_at (c ∷ t) + 1) × (length (c ∷ t) ≤ newline_at (c ∷ t) → cond b 1 (suc (line_bytes t)) ≡ length (c ∷ t))
    by true e h = rw e (λ k. omega arith, λ k. absurd (omega arith))
    by false e h = rw e (λ k. omega (arith, h.0 (omega arith)), λ k. omega (arith, h.1 (omega arith)))

module _ (t : List ℕ) where
  pub line_found : (i : ℕ) → position (λ c. eqb c 10) t ≡ Some i → line_bytes t ≡ i + 1
  line_found i = by (ltb (newline_at t) (length t)) refl
    where
      by : (b : Bool) → ltb (newline_at t) (length t) ≡ b → cond b (Some (newline_at t)) None ≡ Some i → line_bytes t ≡ i + 1
      by true e f = let g : newline_at t ≡ i = cc in omega (arith, g, (line_ended t).0 (ltb-true (newline_at t) (length t) e))
      by false e f = absurd (cc)

  pub line_whole : position (λ c. eqb c 10) t ≡ None → line_bytes t ≡ length t
  line_whole = by (ltb (newline_at t) (length t)) refl
    where
      by : (b : Bool) → ltb (newline_at t) (length t) ≡ b → cond b (Some (newline_at t)) None ≡ None → line_bytes t ≡ length t
      by true e f = absurd (cc)
      by false e f = (line_ended t).1 (ltb-false (newline_at t) (length t) e)
