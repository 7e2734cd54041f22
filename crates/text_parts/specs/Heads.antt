-- A text's head compared, byte by byte, and as the library compares the front of a slice.
use Rattle.std.specs.Prelude.{◌≡◌, refl, Bool, true, false, ◌&&◌, List, [], ◌∷◌, ℕ, suc, ◌+◌, ◌≤◌, ◌<◌, ◌≢◌, eqb, length, take, drop, get_or}
use Rattle.std.proofs.Common.{sym, ap, ◌∙◌, arith, eq-eqb, ne_eqb, drop-cons}
use Rattle.std.proofs.Math.Seq.{drop-length}
use lib.Pointwise.{pointwise}
use Rattle.numbers.specs.Tests.{and_false}
use Rattle.model.specs.TextReading.{begins}

pub short : (h t : List ℕ) → length t < length h → false ≡ begins h t
short [] t e = absurd (omega arith)
short (h ∷ hs) [] e = refl
short (h ∷ hs) (c ∷ cs) e = sym (and_false (eqb c h)) ∙ ap (λ (b : Bool). eqb c h && b) (short hs cs (omega arith))

next_byte : (h t : List ℕ) (i : ℕ) → i < length h → length h ≤ length t
    → begins (drop i h) (drop i t) ≡ (eqb (get_or t i 0) (get_or h i 0) && begins (drop (suc i) h) (drop (suc i) t))
next_byte h t i e f = rw (drop-cons h i 0 e, drop-cons t i 0 (omega arith)) refl

pub other_byte : (h t : List ℕ) (i : ℕ) → i < length h → length h ≤ length t → get_or t i 0 ≢ get_or h i 0 → false ≡ begins (drop i h) (drop i t)
other_byte h t i e f q =
    sym (next_byte h t i e f ∙ ap (λ (b : Bool). b && begins (drop (suc i) h) (drop (suc i) t)) (ne_eqb (get_or t i 0) (get_or h i 0) q))

pub same_byte : (h t : List ℕ) (i : ℕ) → i < length h → length h ≤ length t → get_or t i 0 ≡ get_or h i 0 → begins (drop i h) (drop i t) ≡ begins (drop (i + 1) h) (drop (i + 1) t)
same_byte h t i e f q =
    let n : suc i ≡ i + 1 = omega arith in
    next_byte h t i e f
    ∙ ap (λ (b : Bool). b && begins (drop (suc i) h) (drop (suc i) t)) (eq-eqb (get_or t i 0) (get_or h i 0) q)
    ∙ ap (λ (k : ℕ). begins (drop k h) (drop k t)) n

pub all_bytes : (h t : List ℕ) (i : ℕ) → i ≡ length h → true ≡ begins (drop i h) (drop i t)
all_bytes h t i e = rw (e, drop-length h) refl

pub front_begins : (h t : List ℕ) → pointwise eqb (take (length h) t) h ≡ begins h t
front_begins [] t = refl
front_begins (h ∷ hs) [] = refl
front_begins (h ∷ hs) (c ∷ cs) = ap (λ (b : Bool). eqb c h && b) (front_begins hs cs)
