-- The report's words part by part, as they are written.
use Rattle.std.specs.Prelude.{◌≡◌, refl, ℤ, pos, ◌+ℤ◌, length, get_or}
use Rattle.std.proofs.Common.{sym, ◌∙◌, arith}
use Rattle.std.proofs.Math.Path.{ap}
use mathlib.Core.List.{List, [], ◌∷◌, ◌++◌, append_assoc}
use Prim.Native.Nat.{ℕ, zero, suc, ◌+◌, ◌*◌, ◌^◌, ◌<◌}
use Rattle.std.specs.Int.Count.{ones}
use Rattle.std.proofs.Math.IntN.{nat_abs}
use Rattle.numbers.specs.Maps.{blocks-length}
use Rattle.model.specs.Words.{word}
use Rattle.model.specs.Report.{words_of_amounts, book_map, book_lines, line_words, line_count, totals, report_words, words_needed, words_a_line, words_for}
use Rattle.model.specs.Steps.Lines.{has_line, total}
use Rattle.model.proofs.Accepted.{DayRows}
use Rattle.model.proofs.Records.{Budget}
use Rattle.model.proofs.Bounds.{total_small, account_small}
use Rattle.model.proofs.Read.{line-length}
use Rattle.line_words.specs.Amounts.{Small}
use Rattle.model.specs.Limits.{group_count}

-- the header and the maps
abbrev pub three : ℕ → ℕ → ℕ → List ℕ
three c o f = word 1 c ∷ word 4 o ∷ word 4 f ∷ []

-- the words asked for
pub needed_is : (d : List ℕ) (n v : ℕ → ℤ) (c o f : ℕ) → c ≡ ones o + ones f → o ≡ book_map d n v 0 → f ≡ book_map d n v 1 → words_for c ≡ words_needed d n v
unfolding words_needed line_count
needed_is d n v c o f e p q = ap words_for (e ∙ (λ j. ones (p j) + ones (q j)))

-- n are the nets by which a group has a line, u those of its amounts
module _ (d : List ℕ) (n u v : ℕ → ℤ) where
  abbrev pub ends : List ℕ
  ends = word 7 0 ∷ words_of_amounts (totals d n u v)

  pub report_parts : (c o f : ℕ) → c ≡ ones o + ones f → o ≡ book_map d n v 0 → f ≡ book_map d n v 1
      → ((three c o f ++ book_lines d n u v 0) ++ book_lines d n u v 1) ++ ends ≡ report_words d n u v
  unfolding report_words line_count
  report_parts c o f e p q =
      append_assoc (three c o f ++ book_lines d n u v 0) (book_lines d n u v 1) ends
      ∙ append_assoc (three c o f) (book_lines d n u v 0) (book_lines d n u v 1 ++ ends)
      ∙ (λ i. word 1 ((e ∙ (λ j. ones (p j) + ones (q j))) i) ∷ word 4 (p i) ∷ word 4 (q i) ∷ (book_lines d n u v 0 ++ (book_lines d n u v 1 ++ ends)))

  pub lines_length : (k m : ℕ) → m ≡ book_map d n v k → length (book_lines d n u v k) ≡ words_a_line * ones m
  unfolding book_lines book_map
  lines_length k m e = blocks-length (has_line d n v k) (line_words d u v k) words_a_line (line-length d u v k) group_count ∙ ap (λ (x : ℕ). words_a_line * ones x) (sym e)

  pub totals_small : DayRows d → Budget d u v → Small (totals d n u v)
  unfolding totals
  totals_small r w = record { small = at }
    where
      at : (i : ℕ) → i < 3 → nat_abs (get_or (total d n u v 0 ∷ total d n u v 1 ∷ (total d n u v 0 +ℤ total d n u v 1) ∷ []) i (pos 0)) < 2 ^ 63
      at zero h = total_small d u v r w n 0 (omega arith)
      at (suc zero) h = total_small d u v r w n 1 (omega arith)
      at (suc (suc zero)) h = account_small d u v r w n
      at (suc (suc (suc i))) h = absurd (omega arith)

pub three-totals : (d : List ℕ) (n u v : ℕ → ℤ) → length (totals d n u v) ≡ 3
unfolding totals
three-totals d n u v = refl
