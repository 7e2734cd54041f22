-- The header's count, the ones of the two maps and the line blocks that follow are one number.
use Rattle.std.specs.Prelude.{◌≡◌, Bool, cond, ℤ, length}
use Rattle.std.proofs.Math.Path.{refl, ap}
use Rattle.std.proofs.Common.{sym, ◌∙◌}
use Rattle.std.proofs.Math.Bool.{true, false}
use mathlib.Core.List.{List, [], ◌∷◌, ◌++◌, append_assoc, append-nil}
use Prim.Native.Nat.{ℕ, zero, suc, ◌+◌}
use native.Mathlib.Omega.{arith}
use Rattle.std.specs.Int.Count.{ones}
use Rattle.std.proofs.Math.ListN.{length-append}
use Rattle.numbers.specs.Maps.{map_below, bit, ones-suc}
use Rattle.numbers.specs.Chosen.{joined, Each, chosen, each_append, joined-append, chosen-each, chosen-joined}
use Rattle.model.specs.Words.{word}
use Rattle.model.specs.Steps.Lines.{has_line}
use Rattle.model.specs.Report.{words_of_amounts, book_map, line_words, book_lines, line_count, totals, report_words, words_a_line}
use Rattle.model.specs.Reading.{count_in}
use Rattle.model.proofs.Read.{line-length, count_read_lem}
use Rattle.model.specs.Limits.{group_count}

-- the members chosen are as many as the ones of the map of the numbers they are chosen by
module _ {A : Type 0} (t : ℕ → Bool) (L : ℕ → A) where
  one_counted : (b : Bool) (i : ℕ) → length (cond b (L i ∷ []) []) ≡ bit b
  one_counted true i = refl
  one_counted false i = refl

  chosen-ones : (n : ℕ) → length (chosen t L n) ≡ ones (map_below t n)
  unfolding chosen map_below ones
  chosen-ones zero = refl
  chosen-ones (suc n) =
      omega (arith, length-append (chosen t L n) (cond (t n) (L n ∷ []) []), one_counted (t n) n, chosen-ones n, ones-suc t n)

-- ---- the report

module _ (d : List ℕ) (n u v : ℕ → ℤ) where
  unfoldable pub book_blocks : ℕ → List (List ℕ)
  book_blocks k = chosen (has_line d n v k) (line_words d u v k) group_count

  -- the line blocks of the report
  unfoldable pub line_blocks : List (List ℕ)
  line_blocks = book_blocks 0 ++ book_blocks 1

  book_joined : (k : ℕ) → joined (book_blocks k) ≡ book_lines d n u v k
  unfolding book_blocks book_lines
  book_joined k = chosen-joined (has_line d n v k) (line_words d u v k) group_count

  -- they are what stands between the maps and the totals
  pub blocks_are_lines : report_words d n u v
      ≡ word 1 (line_count d n v) ∷ word 4 (book_map d n v 0) ∷ word 4 (book_map d n v 1)
      ∷ (joined line_blocks ++ word 7 0 ∷ words_of_amounts (totals d n u v))
  unfolding report_words line_blocks
  blocks_are_lines =
      ap (λ (l : List ℕ). word 1 (line_count d n v) ∷ word 4 (book_map d n v 0) ∷ word 4 (book_map d n v 1) ∷ l)
      (sym (append_assoc (book_lines d n u v 0) (book_lines d n u v 1) (word 7 0 ∷ words_of_amounts (totals d n u v)))
      ∙ ap (λ (l : List ℕ). l ++ word 7 0 ∷ words_of_amounts (totals d n u v))
      (sym (joined-append (book_blocks 0) (book_blocks 1) ∙ (λ i. book_joined 0 i ++ book_joined 1 i))))

  -- each has 19 words
  pub blocks-each : Each words_a_line line_blocks
  unfolding line_blocks book_blocks
  blocks-each =
      each_append (chosen-each (has_line d n v 0) (line_words d u v 0) words_a_line (line-length d u v 0) group_count)
      (chosen-each (has_line d n v 1) (line_words d u v 1) words_a_line (line-length d u v 1) group_count)

  -- they are as many as the two maps have ones
  pub ones_are_blocks : ones (book_map d n v 0) + ones (book_map d n v 1) ≡ length line_blocks
  unfolding line_blocks book_blocks book_map
  ones_are_blocks =
      omega (
        arith,
        length-append (book_blocks 0) (book_blocks 1),
        chosen-ones (has_line d n v 0) (line_words d u v 0) group_count,
        chosen-ones (has_line d n v 1) (line_words d u v 1) group_count,
      )

  -- and as the header says
  pub header_is_blocks : count_in (report_words d n u v) ≡ length line_blocks
  unfolding line_count
  header_is_blocks = ap count_in (sym (append-nil (report_words d n u v))) ∙ count_read_lem d n u v [] ∙ ones_are_blocks
