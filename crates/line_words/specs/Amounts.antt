-- Amounts that three words hold, and their words one behind the other.
use Rattle.std.specs.Prelude.{◌≡◌, refl, List, [], ◌∷◌, ◌++◌, ℕ, ◌+◌, ◌*◌, ◌^◌, ◌≤◌, ◌<◌, ℤ, pos, nat_abs, length, take, get_or, set}
use Rattle.std.proofs.Common.{sym, ap, ◌∙◌, append_assoc, add-one, arith, take-suc, take_all, length-take-le}
use Rattle.std.proofs.Math.Numerals.{towards_suc}
use Rattle.std.proofs.lemmas.List.Edits.{sets-eq}
use Rattle.numbers.specs.Put.{put, put-none, put-put}
use Rattle.model.specs.Words.{amount_words}
use Rattle.model.specs.Report.{words_of_amounts}

pub record Small (l : List ℤ) : Type 0 where
  pub small : (i : ℕ) → i < length l → nat_abs (get_or l i (pos 0)) < 2 ^ 63

-- three stores in a row
pub three_stores : (l : List ℕ) (at a b c : ℕ) → at + 3 ≤ length l → set (set (set l at a) (at + 1) b) (at + 2) c ≡ put at (a ∷ b ∷ c ∷ []) l
unfolding put
three_stores l at a b c h = simp towards_suc (sets-eq (a ∷ b ∷ c ∷ []) l at h ∙ simp (append_assoc, towards_suc))

words_append : (l m : List ℤ) → words_of_amounts (l ++ m) ≡ words_of_amounts l ++ words_of_amounts m
unfolding words_of_amounts
words_append [] m = refl
words_append (z ∷ l) m = ap (λ (x : List ℕ). amount_words z ++ x) (words_append l m)

pub words_length : (l : List ℤ) → length (words_of_amounts l) ≡ 3 * length l
unfolding words_of_amounts
words_length [] = refl
words_length (z ∷ l) = omega (arith, words_length l)

words_more : (l : List ℤ) (i : ℕ) → i < length l → words_of_amounts (take (i + 1) l) ≡ words_of_amounts (take i l) ++ amount_words (get_or l i (pos 0))
unfolding words_of_amounts
words_more l i h = rw (add-one, take-suc l i (pos 0) h) (words_append (take i l) (get_or l i (pos 0) ∷ []))

-- the first i amounts written, as a loop has them
pub amounts-none : (out : List ℕ) (at : ℕ) (l : List ℤ) → out ≡ put at (words_of_amounts (take 0 l)) out
unfolding words_of_amounts
amounts-none out at l = sym (put-none at out)

pub amounts_more : (out : List ℕ) (at : ℕ) (l : List ℤ) (i : ℕ) → i < length l → at + 3 * length l ≤ length out
    → put (at + 3 * i) (amount_words (get_or l i (pos 0))) (put at (words_of_amounts (take i l)) out) ≡ put at (words_of_amounts (take (i + 1) l)) out
amounts_more out at l i h k =
    let n = words_length (take i l) in
    let t = length-take-le i l (omega arith) in
    put-put at (words_of_amounts (take i l)) (amount_words (get_or l i (pos 0))) out (at + 3 * i) (omega (arith, n, t)) (omega arith)
    ∙ ap (λ (w : List ℕ). put at w out) (sym (words_more l i h))

pub amounts_all : (out : List ℕ) (at : ℕ) (l : List ℤ) (i : ℕ) → length l ≤ i → put at (words_of_amounts (take i l)) out ≡ put at (words_of_amounts l) out
amounts_all out at l i h = ap (λ (x : List ℤ). put at (words_of_amounts x) out) (take_all i l h)

pub amounts-length : (out : List ℕ) (at : ℕ) (l : List ℤ) (i : ℕ) → i ≤ length l → at + 3 * length l ≤ length out
    → length (put at (words_of_amounts (take i l)) out) ≡ length out
amounts-length out at l i h k =
    Rattle.numbers.specs.Put.put-length at (words_of_amounts (take i l)) out (omega (arith, words_length (take i l), length-take-le i l h))
