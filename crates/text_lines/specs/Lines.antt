-- The lengths of lines, and one more of them, as loops meet them.
use Rattle.std.specs.Prelude.{◌≡◌, Bool, true, false, cond, eqb, length, get_or}
use Rattle.std.proofs.Math.Path.{refl}
use mathlib.Core.List.{List, [], ◌∷◌, ◌++◌}
use Prim.Native.Nat.{ℕ, zero, suc, ◌+◌, ◌*◌, ◌≤◌}
use Rattle.std.proofs.Math.Numerals.{add-one}
use native.Mathlib.Omega.{arith}
use Rattle.std.proofs.Math.ListN.{length-append}
use Rattle.model.specs.Words.{payload, bits}
use Rattle.model.specs.Printed.{number_field, amount_fields, ordinary_head, fail_head, line_text, lines_text}
use Rattle.model.specs.Report.{words_a_line}
use Rattle.model.proofs.Digits.{decimal-length}
use Rattle.text_fields.specs.Fields.{fields_length}

-- the bytes of the longest line
abbrev pub longest_line : ℕ
longest_line = 155

-- the head of a line whose key has this payload
abbrev pub head_of : ℕ → List ℕ
head_of p = cond (eqb (bits p 5 1) 1) fail_head ordinary_head

pub head_length : (p : ℕ) → length (head_of p) ≡ 1
head_length p = by (eqb (bits p 5 1) 1)
  where
    by : (b : Bool) → length (cond b fail_head ordinary_head) ≡ 1
    by true = refl
    by false = refl

module _ (w : List ℕ) where
  -- a line's parts
  pub line_parts : (i : ℕ) → line_text w i ≡ head_of (payload (get_or w i 0)) ++ number_field (bits (payload (get_or w i 0)) 0 5) ++ amount_fields w (i + 1) 6 ++ 10 ∷ []
  unfolding line_text
  line_parts i = refl

  pub line-length : (i : ℕ) → length (line_text w i) ≤ longest_line
  unfolding line_text
  line-length i =
      let p : ℕ = payload (get_or w i 0) in
      let h : List ℕ = head_of p in
      let n : List ℕ = number_field (bits p 0 5) in
      let f : List ℕ = amount_fields w (i + 1) 6 in
      omega (
        arith,
        head_length p,
        decimal-length (bits p 0 5),
        fields_length w (i + 1) 6,
        length-append (h ++ n ++ f) (10 ∷ []),
        length-append (h ++ n) f,
        length-append h n,
      )

  pub lines_none : lines_text w 0 ≡ []
  unfolding lines_text
  lines_none = refl

  pub lines_more : (n : ℕ) → lines_text w (n + 1) ≡ lines_text w n ++ line_text w (3 + words_a_line * n)
  unfolding lines_text
  lines_more n = rw add-one

  pub lines_length : (n : ℕ) → length (lines_text w n) ≤ longest_line * n
  unfolding lines_text
  lines_length zero = omega arith
  lines_length (suc n) =
      omega (arith, lines_length n, line-length (3 + words_a_line * n), length-append (lines_text w n) (line_text w (3 + words_a_line * n)))
