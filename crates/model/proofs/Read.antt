-- What is read from the words of a report, whatever stands behind them, is what was written.
use mathlib.Core.Path.{◌≡◌, refl, sym, ap, ◌∙◌}
use mathlib.Core.Bool.{Bool, true, false, cond}
use mathlib.Core.List.{List, [], ◌∷◌, ◌++◌, append_assoc}
use Prim.Native.Nat.{ℕ, zero, suc, ◌+◌, ◌*◌, ◌%◌, ◌^◌, ◌≤◌, ◌<◌}
use native.Mathlib.Omega.{arith}
use lib.Count.{ones, ones-le}
use lib.Dec.{eqb}
use lib.IntN.{ℤ, pos, nat_abs, ◌+ℤ◌}
use lib.ListN.{length, take, drop, length-append}
use lib.Seq.{drop-append-add}
use Rattle.numbers.specs.Maps.{map_below, bit, map_lt, map_mod, map-bit, blocks-length, block_at}
use Rattle.model.specs.Words.{word, amount_words}
use Rattle.model.proofs.WordsBack.{payload-word, amount_back}
use Rattle.model.specs.Steps.{has_line, margin, line_amounts, total}
use Rattle.model.specs.Report.{words_of_amounts, book_map, line_words, book_lines, line_count, totals, report_words, words_a_line}
use Rattle.model.specs.Reading.{count_in, map_in, stands_in, lines_before, line_in, total_in, amount_in, margin_in}
use Rattle.model.specs.Limits.{group_count, most_lines}

-- Throughout n are the nets by which a group has a line, u those of its amounts, v the DVPs.

-- what group g of book k adds to the book's total
abbrev pub adds : List ℕ → (ℕ → ℤ) → (ℕ → ℤ) → (ℕ → ℤ) → ℕ → ℕ → ℤ
adds d n u v k g = cond (has_line d n v k g) (margin d u v k g) (pos 0)

module _ (d : List ℕ) (n v : ℕ → ℤ) where
  pub map_small : (k : ℕ) → book_map d n v k < 2 ^ group_count
  unfolding book_map
  map_small k = map_lt (has_line d n v k) group_count

  pub count_small : line_count d n v ≤ most_lines
  unfolding line_count
  count_small = omega (arith, ones-le group_count (book_map d n v 0) (map_small 0), ones-le group_count (book_map d n v 1) (map_small 1))

pub line-length : (d : List ℕ) (u v : ℕ → ℤ) (k g : ℕ) → length (line_words d u v k g) ≡ words_a_line
unfolding line_words words_of_amounts line_amounts
line-length d u v k g = refl

module _ (d : List ℕ) (n u v : ℕ → ℤ) where
  lines_length : (k : ℕ) → length (book_lines d n u v k) ≡ words_a_line * ones (book_map d n v k)
  unfolding book_lines book_map
  lines_length k = blocks-length (has_line d n v k) (line_words d u v k) words_a_line (line-length d u v k) group_count

  abbrev pub total_of : ℕ → ℤ
  total_of zero = total d n u v 0
  total_of (suc zero) = total d n u v 1
  total_of (suc (suc i)) = total d n u v 0 +ℤ total d n u v 1

  module _ (rest : List ℕ) where
    abbrev pub w : List ℕ
    w = report_words d n u v ++ rest

    abbrev ends : List ℕ
    ends = word 7 0 ∷ words_of_amounts (totals d n u v)

    abbrev three : List ℕ
    three = word 1 (line_count d n v) ∷ word 4 (book_map d n v 0) ∷ word 4 (book_map d n v 1) ∷ []

    parts : w ≡ three ++ (book_lines d n u v 0 ++ (book_lines d n u v 1 ++ (ends ++ rest)))
    unfolding report_words
    parts =
        ap (λ (l : List ℕ). three ++ l)
        (append_assoc (book_lines d n u v 0) (book_lines d n u v 1 ++ ends) rest
        ∙ ap (λ (l : List ℕ). book_lines d n u v 0 ++ l) (append_assoc (book_lines d n u v 1) ends rest))

    pub count_read_lem : count_in w ≡ line_count d n v
    unfolding report_words
    count_read_lem = payload-word 1 (line_count d n v) (omega (arith, count_small d n v))

    pub map_read : (k : ℕ) → k < 2 → map_in w k ≡ book_map d n v k
    unfolding report_words
    map_read zero h = payload-word 4 (book_map d n v 0) (map_small d n v 0)
    map_read (suc zero) h = payload-word 4 (book_map d n v 1) (map_small d n v 1)
    map_read (suc (suc k)) h = absurd (omega arith)

    pub stands_read : (k g : ℕ) → k < 2 → g < group_count → stands_in w k g ≡ bit (has_line d n v k g)
    unfolding book_map
    stands_read k g h p = rw (map_read k h) (map-bit (has_line d n v k) g group_count p)

    below_read : (k g : ℕ) → k < 2 → g < group_count → ones (map_in w k % 2 ^ g) ≡ ones (map_below (has_line d n v k) g)
    unfolding book_map
    below_read k g h p = rw (map_read k h) (ap ones (map_mod (has_line d n v k) g group_count (omega arith)))

    pub line_read : (k g : ℕ) → k < 2 → g < group_count → has_line d n v k g ≡ true → line_in w k g ≡ line_words d u v k g
    unfolding book_lines
    line_read zero g h p e =
        let x : 3 + words_a_line * lines_before w 0 g ≡ 3 + words_a_line * ones (map_below (has_line d n v 0) g) = omega (arith, below_read 0 g h p) in
        rw (x, parts, drop-append-add three (book_lines d n u v 0 ++ (book_lines d n u v 1 ++ (ends ++ rest))) (words_a_line * ones (map_below (has_line d n v 0) g)))
        (block_at (has_line d n v 0) (line_words d u v 0) words_a_line (line-length d u v 0) g group_count (book_lines d n u v 1 ++ (ends ++ rest)) p e)
    line_read (suc zero) g h p e =
        let B : ℕ = words_a_line * ones (map_below (has_line d n v 1) g) in
        let x : 3 + words_a_line * lines_before w 1 g ≡ 3 + (length (book_lines d n u v 0) + B) =
        omega (arith, below_read 1 g h p, ap ones (map_read 0 (omega arith)), lines_length 0)
        in
        rw (x, parts, drop-append-add three (book_lines d n u v 0 ++ (book_lines d n u v 1 ++ (ends ++ rest))) (length (book_lines d n u v 0) + B), drop-append-add (book_lines d n u v 0) (book_lines d n u v 1 ++ (ends ++ rest)) B)
        (block_at (has_line d n v 1) (line_words d u v 1) words_a_line (line-length d u v 1) g group_count (ends ++ rest) p e)
    line_read (suc (suc k)) g h p e = absurd (omega arith)

    abbrev pub front : List ℕ
    front = three ++ (book_lines d n u v 0 ++ (book_lines d n u v 1 ++ word 7 0 ∷ []))

    pub front_length : length front ≡ 4 + words_a_line * line_count d n v
    unfolding line_count
    front_length =
        omega (arith, length-append (book_lines d n u v 0) (book_lines d n u v 1 ++ word 7 0 ∷ []), length-append (book_lines d n u v 1) (word 7 0 ∷ []), lines_length 0, lines_length 1)

    abbrev pub amounts : List ℕ
    amounts = words_of_amounts (totals d n u v) ++ rest

    pub whole : w ≡ front ++ amounts
    whole =
        parts
        ∙ ap (λ (l : List ℕ). three ++ l)
        (sym (append_assoc (book_lines d n u v 0) (book_lines d n u v 1 ++ word 7 0 ∷ []) amounts
        ∙ ap (λ (l : List ℕ). book_lines d n u v 0 ++ l) (append_assoc (book_lines d n u v 1) (word 7 0 ∷ []) amounts)))

    nine : (i : ℕ) → i < 3 → take 3 (drop (3 * i) amounts) ≡ amount_words (total_of i)
    unfolding words_of_amounts totals
    nine zero h = refl
    nine (suc zero) h = refl
    nine (suc (suc zero)) h = refl
    nine (suc (suc (suc i))) h = absurd (omega arith)

    pub total_words : (i : ℕ) → i < 3 → total_in w i ≡ amount_words (total_of i)
    total_words i h =
        let x : 4 + words_a_line * count_in w + 3 * i ≡ length front + 3 * i = omega (arith, count_read_lem, front_length) in
        rw (x, whole, drop-append-add front amounts (3 * i)) (nine i h)

    -- amounts of fewer than 63 bits read back
    pub total_read : (i : ℕ) → i < 3 → nat_abs (total_of i) < 2 ^ 63 → amount_in (total_in w i) 0 ≡ total_of i
    total_read i h f = rw (total_words i h) (amount_back (total_of i) f)

    fifth : (k g : ℕ) → nat_abs (margin d u v k g) < 2 ^ 63 → amount_in (line_words d u v k g) 13 ≡ margin d u v k g
    unfolding line_words words_of_amounts line_amounts
    fifth k g f = amount_back (margin d u v k g) f

    pub margin_read : (k g : ℕ) → k < 2 → g < group_count → nat_abs (margin d u v k g) < 2 ^ 63
        → margin_in w k g ≡ adds d n u v k g
    margin_read k g h p f = rw (stands_read k g h p) (by (has_line d n v k g) refl)
      where
        by : (b : Bool) → has_line d n v k g ≡ b → cond (eqb (bit b) 1) (amount_in (line_in w k g) 13) (pos 0) ≡ cond b (margin d u v k g) (pos 0)
        by true e = ap (λ (l : List ℕ). amount_in l 13) (line_read k g h p e) ∙ fifth k g f
        by false e = refl
