-- The words of bytes and the bytes of words, one by one.
use Rattle.std.specs.Prelude.{◌≡◌, refl, List, [], ◌∷◌, ◌++◌, ℕ, zero, suc, ◌+◌, ◌*◌, ◌/◌, ◌%◌, ◌^◌, ◌≤◌, ◌<◌, length, get_or, take, set}
use Rattle.std.proofs.Common.{sym, ap, ◌∙◌, append_assoc, add-one, arith, take-suc, length-take-le}
use Rattle.std.proofs.Math.Numerals.{towards_suc}
use Rattle.std.proofs.lemmas.List.Edits.{sets-eq}
use Rattle.numbers.specs.Put.{put, put-none, put-put, put-length}
use Rattle.model.specs.Bytes.{words_of, bytes_of}

abbrev pub word_at : List ℕ → ℕ → ℕ
word_at s i = get_or s (4 * i) 0 + 2 ^ 8 * get_or s (4 * i + 1) 0 + 2 ^ 16 * get_or s (4 * i + 2) 0 + 2 ^ 24 * get_or s (4 * i + 3) 0

pub words_at : (s : List ℕ) (i : ℕ) → i < length s / 4 → get_or (words_of s) i 0 ≡ word_at s i
unfolding words_of
words_at [] i h = absurd (omega arith)
words_at (a ∷ []) i h = absurd (omega arith)
words_at (a ∷ b ∷ []) i h = absurd (omega arith)
words_at (a ∷ b ∷ c ∷ []) i h = absurd (omega arith)
words_at (a ∷ b ∷ c ∷ d ∷ s) zero h = refl
words_at (a ∷ b ∷ c ∷ d ∷ s) (suc i) h =
    let e₀ : 4 * suc i ≡ suc (suc (suc (suc (4 * i)))) = omega arith in
    let e₁ : 4 * suc i + 1 ≡ suc (suc (suc (suc (4 * i + 1)))) = omega arith in
    let e₂ : 4 * suc i + 2 ≡ suc (suc (suc (suc (4 * i + 2)))) = omega arith in
    let e₃ : 4 * suc i + 3 ≡ suc (suc (suc (suc (4 * i + 3)))) = omega arith in
    rw (e₁, e₂, e₃, e₀) (words_at s i (omega arith))

-- four stores in a row
pub four_stores : (l : List ℕ) (at a b c d : ℕ) → at + 4 ≤ length l
    → set (set (set (set l at a) (at + 1) b) (at + 2) c) (at + 3) d ≡ put at (a ∷ b ∷ c ∷ d ∷ []) l
unfolding put
four_stores l at a b c d h = simp towards_suc (sets-eq (a ∷ b ∷ c ∷ d ∷ []) l at h ∙ simp (append_assoc, towards_suc))

bytes_append : (l m : List ℕ) → bytes_of (l ++ m) ≡ bytes_of l ++ bytes_of m
unfolding bytes_of
bytes_append [] m = refl
bytes_append (w ∷ l) m = ap (λ (x : List ℕ). (w % 2 ^ 8) ∷ (w / 2 ^ 8 % 2 ^ 8) ∷ (w / 2 ^ 16 % 2 ^ 8) ∷ (w / 2 ^ 24 % 2 ^ 8) ∷ x) (bytes_append l m)

pub bytes_length : (l : List ℕ) → length (bytes_of l) ≡ 4 * length l
unfolding bytes_of
bytes_length [] = refl
bytes_length (w ∷ l) = omega (arith, bytes_length l)

-- the bytes of the first i words written, as a loop has them
pub bytes_none : (out w : List ℕ) → out ≡ put 0 (bytes_of (take 0 w)) out
unfolding bytes_of
bytes_none out w = sym (put-none 0 out)

pub bytes_more : (out w : List ℕ) (i : ℕ) → i < length w → 4 * length w ≤ length out
    → put (4 * i) (bytes_of (get_or w i 0 ∷ [])) (put 0 (bytes_of (take i w)) out) ≡ put 0 (bytes_of (take (i + 1) w)) out
bytes_more out w i h k =
    let n = bytes_length (take i w) in
    let t = length-take-le i w (omega arith) in
    let o = bytes_length (get_or w i 0 ∷ []) in
    let e : take (i + 1) w ≡ take i w ++ get_or w i 0 ∷ [] = ap (λ (m : ℕ). take m w) (add-one i) ∙ take-suc w i 0 h in
    put-put 0 (bytes_of (take i w)) (bytes_of (get_or w i 0 ∷ [])) out (4 * i) (omega (arith, n, t)) (omega (arith, o))
    ∙ ap (λ (b : List ℕ). put 0 b out) (sym (ap bytes_of e ∙ bytes_append (take i w) (get_or w i 0 ∷ [])))

pub bytes_kept : (out w : List ℕ) (i : ℕ) → i ≤ length w → 4 * length w ≤ length out → length (put 0 (bytes_of (take i w)) out) ≡ length out
bytes_kept out w i h k = put-length 0 (bytes_of (take i w)) out (omega (arith, bytes_length (take i w), length-take-le i w h))
