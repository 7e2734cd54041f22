-- Laws of what writing leaves: `put at w l` is l with w written over it from place `at` on. Each function that writes says what it wrote by this.
use Rattle.std.specs.Prelude.{◌≡◌, ℕ, suc, ◌+◌, ◌-◌, ◌≤◌, ◌<◌, get_or, set}
use Rattle.std.proofs.Math.Path.{sym, ap}
use Rattle.std.proofs.Common.{◌∙◌, le_of_eq, add-one, length-set, drop_of_length-le, take-suc, take_all}
use mathlib.Core.List.{List, [], ◌∷◌, ◌++◌, append_assoc, append-nil}
use native.Mathlib.Omega.{arith}
use Rattle.std.proofs.Math.ListN.{length, take, drop, length-append, length-drop, take-append-drop}
use Rattle.std.proofs.Math.Seq.{length-take-le, take_at, drop-append-add, drop-drop, set_split}
use borrow.Rule.Slice.PartMut.{put_mid, mid_of}
unfoldable pub use Rattle.numbers.specs.Definitions.{put}

module _ {A : Type 0} where
  -- nothing written
  pub put-none : (at : ℕ) (l : List A) → put at [] l ≡ l
  unfolding put
  put-none at l =
      let e : at + 0 ≡ at = omega arith in
      ap (λ (n : ℕ). take at l ++ drop n l) e ∙ take-append-drop at l

  -- at the front
  pub put_front : (w l : List A) → put 0 w l ≡ w ++ drop (length w) l
  unfolding put
  put_front w l = let e : 0 + length w ≡ length w = omega arith in ap (λ (n : ℕ). w ++ drop n l) e

  -- one store
  pub put_one : (l : List A) (at : ℕ) (a : A) → at < length l → set l at a ≡ put at (a ∷ []) l
  unfolding put
  put_one l at a h = set_split l at a h ∙ ap (λ (n : ℕ). take at l ++ a ∷ drop n l) (sym (add-one at))

  pub put-length : (at : ℕ) (w l : List A) → at + length w ≤ length l → length (put at w l) ≡ length l
  unfolding put
  put-length at w l h =
      omega (
        arith,
        length-append (take at l) (w ++ drop (at + length w) l),
        length-append w (drop (at + length w) l),
        length-take-le at l (omega arith),
        length-drop (at + length w) l,
      )

  -- v written behind w is both written at once
  pub put-put : (at : ℕ) (w v l : List A) (n : ℕ) → n ≡ at + length w → n + length v ≤ length l → put n v (put at w l) ≡ put at (w ++ v) l
  unfolding put
  put-put at w v l n e h =
      let p : List A = take at l in
      let r : List A = drop (at + length w) l in
      let x : length (p ++ w) ≡ n = omega (arith, length-append p w, length-take-le at l (omega arith)) in
      let y : p ++ (w ++ r) ≡ (p ++ w) ++ r = sym (append_assoc p w r) in
      let q : (at + length w) + length v ≡ at + length (w ++ v) = omega (arith, length-append w v) in
      let z : drop (n + length v) ((p ++ w) ++ r) ≡ drop (at + length (w ++ v)) l =
      ap (λ (m : ℕ). drop (m + length v) ((p ++ w) ++ r)) (sym x) ∙ drop-append-add (p ++ w) r (length v) ∙ drop-drop (length v) (at + length w) l
      ∙ ap (λ (m : ℕ). drop m l) q
      in
      ap (λ (s : List A). take n s ++ (v ++ drop (n + length v) s)) y
      ∙ (λ i. take_at (p ++ w) r n x i ++ (v ++ z i))
      ∙ append_assoc p w (v ++ drop (at + length (w ++ v)) l)
      ∙ ap (λ (s : List A). p ++ s) (sym (append_assoc w v (drop (at + length (w ++ v)) l)))

  -- two stores, one behind the other
  pub put_two : (l : List A) (at : ℕ) (a b : A) → at + 2 ≤ length l → set (set l at a) (at + 1) b ≡ put at (a ∷ b ∷ []) l
  put_two l at a b h =
      let n = length-set l at a in
      put_one (set l at a) (at + 1) b (omega arith)
      ∙ ap (put (at + 1) (b ∷ [])) (put_one l at a (omega arith))
      ∙ put-put at (a ∷ []) (b ∷ []) l (at + 1) (omega arith) (omega arith)

  -- the same of two functions that write, each returning the place behind what it wrote
  pub put_then : (at : ℕ) (w v l : List A) {n q : ℕ} {m₁ m₂ : List A} → (n ≡ at + length w) × (m₁ ≡ put at w l) → (q ≡ n + length v) × (m₂ ≡ put n v m₁)
      → n + length v ≤ length l → (q ≡ at + length (w ++ v)) × (m₂ ≡ put at (w ++ v) l)
  put_then at w v l {n = n} a b h =
      (omega (arith, a.0, b.0, length-append w v), b.1 ∙ ap (put n v) a.1 ∙ put-put at w v l n a.0 h)

  -- the next element of w, as a loop that copies w meets it
  pub put_next : (at i : ℕ) (w l : List A) (a : A) → i < length w → at + length w ≤ length l → set (put at (take i w) l) (at + i) (get_or w i a) ≡ put at (take (i + 1) w) l
  put_next at i w l a h k =
      let t = length-take-le i w (omega arith) in
      let n = put-length at (take i w) l (omega arith) in
      put_one (put at (take i w) l) (at + i) (get_or w i a) (omega arith)
      ∙ put-put at (take i w) (get_or w i a ∷ []) l (at + i) (omega arith) (omega arith)
      ∙ ap (λ (x : List A). put at x l) (sym (ap (λ (m : ℕ). take m w) (add-one i) ∙ take-suc w i a h))

  -- the part from `at` on, lent as such
  pub rest_is : (at : ℕ) (l : List A) → mid_of at (length l - at) l ≡ drop at l
  rest_is at l = take_all (length l - at) (drop at l) (le_of_eq (length-drop at l))

  -- what f makes of it, said of the whole
  pub rest_part : (at : ℕ) (l last : List A) (f : List A → List A) → last ≡ f (mid_of at (length l - at) l) → put_mid at (length l - at) l last ≡ take at l ++ f (drop at l)
  rest_part at l last f e =
      rw (drop_of_length-le (drop at l) (le_of_eq (length-drop at l)), append-nil) (ap (λ (x : List A). take at l ++ x) (e ∙ ap f (rest_is at l)))

  -- .. where it writes over the front
  pub put_part : (at : ℕ) (w l last : List A) → last ≡ put 0 w (mid_of at (length l - at) l) → put_mid at (length l - at) l last ≡ put at w l
  unfolding put
  put_part at w l last e =
      rest_part at l last (put 0 w) e
      ∙ ap (λ (x : List A). take at l ++ x) (put_front w (drop at l) ∙ ap (λ (x : List A). w ++ x) (drop-drop (length w) at l))

  -- a part of w's length, which w is copied to
  pub put_copied : (at k : ℕ) (w l last : List A) → last ≡ w → k ≡ length w → put_mid at k l last ≡ put at w l
  unfolding put
  put_copied at k w l last e n =
      ap (λ (m : ℕ). take at l ++ (last ++ drop m (drop at l))) n
      ∙ ap (λ (x : List A). take at l ++ (x ++ drop (length w) (drop at l))) e
      ∙ ap (λ (r : List A). take at l ++ (w ++ r)) (drop-drop (length w) at l)

  -- a run written behind the first element, and then that one: all over the front
  pub put_head : (a : A) (w l : List A) → 0 < length l → set (put 1 w l) 0 a ≡ (a ∷ w) ++ drop (length (a ∷ w)) l
  unfolding put
  put_head a w [] h = absurd (omega arith)
  put_head a w (b ∷ l) h = let e : 1 + length w ≡ suc (length w) = omega arith in ap (λ (n : ℕ). a ∷ (w ++ drop n (b ∷ l))) e
