-- The words of one group in a book: its line, or none.
use Rattle.std.specs.Prelude.{◌≡◌, refl, true, false, cond, List, [], ◌∷◌, ◌++◌, ℤ, pos, get_or}
use Rattle.std.proofs.Common.{sym, ◌∙◌, arith, to_z, of_z}
use Rattle.std.proofs.Math.Path.{ap}
use Prim.Native.Nat.{ℕ, zero, suc, ◌+◌, ◌*◌, ◌/◌, ◌%◌, ◌^◌, ◌≤◌, ◌<◌}
use Rattle.std.proofs.Math.Numerals.{add-one}
use Rattle.std.specs.Int.Count.{ones}
use Rattle.std.proofs.Math.IntN.{nat_abs}
use Rattle.std.proofs.Math.ListN.{length, length-append}
use Rattle.std.specs.Int.{w64}
use Rattle.numbers.specs.Abs.{back}
use Rattle.numbers.specs.Maps.{map_below, bit_one, bit_other, blocks, map-bit, ones_mono, blocks-length}
use Rattle.model.specs.Report.{book_map, line_words, words_a_line}
use Rattle.model.specs.Steps.Lines.{has_line}
use Rattle.model.specs.Steps.Margin.{group_spread, group_mtm, group_premium, margin, residual, line_amounts}
use Rattle.model.specs.Steps.Minimum.{requirement}
use Rattle.model.proofs.Accepted.{DayRows}
use Rattle.model.proofs.Records.{Budget}
use Rattle.model.proofs.Bounds.{spread_small_lem, mtm_small_lem, premium_small_lem, requirement_small, margin_small, residual_small}
use Rattle.model.proofs.Read.{line-length}
use Rattle.line_words.specs.Amounts.{Small}
use Rattle.model.specs.Limits.{group_count}

-- n are the nets by which a group has a line, u those of its amounts
abbrev pub one_line : List ℕ → (ℕ → ℤ) → (ℕ → ℤ) → (ℕ → ℤ) → ℕ → ℕ → List ℕ
one_line d n u v k g = cond (has_line d n v k g) (line_words d u v k g) []

module _ (d : List ℕ) (n v : ℕ → ℤ) (k : ℕ) where
  -- a bit of the map says whether there is a line
  pub bit-set : (g m : ℕ) → g < group_count → m ≡ book_map d n v k → m / 2 ^ g % 2 ≡ 1 → has_line d n v k g ≡ true
  unfolding book_map
  bit-set g m h e q = bit_one (has_line d n v k g) (sym (map-bit (has_line d n v k) g group_count h) ∙ ap (λ (x : ℕ). x / 2 ^ g % 2) (sym e) ∙ q)

  pub bit_clear : (g m : ℕ) → g < group_count → m ≡ book_map d n v k → (m / 2 ^ g % 2 ≡ 1 → ⊥) → has_line d n v k g ≡ false
  unfolding book_map
  bit_clear g m h e q =
      bit_other (has_line d n v k g) (λ z. q (ap (λ (x : ℕ). x / 2 ^ g % 2) e ∙ map-bit (has_line d n v k) g group_count h ∙ z))

  -- the six amounts of a line fit
  pub line_small : (g : ℕ) → DayRows d → Budget d n v → k < 2 → g < group_count → Small (line_amounts d n v k g)
  unfolding line_amounts
  line_small g r w hk hg =
      record { small = λ i h. at i h }
    where
      at : (i : ℕ) → i < 6 → nat_abs (get_or (group_spread d n k g ∷ group_mtm d n v k g ∷ group_premium d n k g ∷ requirement d n k g ∷ margin d n v k g ∷ residual d n v k g ∷ []) i (pos 0)) < 2 ^ 63
      at zero h = spread_small_lem d n v r w k g hk hg
      at (suc zero) h = mtm_small_lem d n v r w k g hk hg
      at (suc (suc zero)) h = premium_small_lem d n v r w k g hk hg
      at (suc (suc (suc zero))) h = requirement_small d n v r w k g hk hg
      at (suc (suc (suc (suc zero)))) h = margin_small d n v r w k g hk hg
      at (suc (suc (suc (suc (suc zero))))) h = residual_small d n v r w k g hk hg
      at (suc (suc (suc (suc (suc (suc i)))))) h = absurd (omega arith)

-- the lines of the groups below g, one behind the other, as a loop writes them
module _ (d : List ℕ) (n u v : ℕ → ℤ) (k : ℕ) where
  abbrev pub lines_below : ℕ → List ℕ
  lines_below g = blocks (has_line d n v k) (line_words d u v k) g

  pub below_length : (g : ℕ) → length (lines_below g) ≡ words_a_line * ones (map_below (has_line d n v k) g)
  below_length g = blocks-length (has_line d n v k) (line_words d u v k) words_a_line (line-length d u v k) g

  pub below_more : (g : ℕ) → lines_below (g + 1) ≡ lines_below g ++ one_line d n u v k g
  unfolding blocks
  below_more g = rw add-one

  -- there is room for one more
  pub below_room : (g m : ℕ) → g < group_count → m ≡ book_map d n v k → length (lines_below g) + length (one_line d n u v k g) ≤ words_a_line * ones m
  unfolding book_map
  below_room g m h e =
      let a : length (lines_below (g + 1)) ≡ length (lines_below g) + length (one_line d n u v k g) = ap length (below_more g) ∙ length-append (lines_below g) (one_line d n u v k g) in
      omega (arith, a, below_length (g + 1), ones_mono (has_line d n v k) (g + 1) group_count (omega arith), ap ones e)

  pub below_all : (g m : ℕ) → g ≤ group_count → m ≡ book_map d n v k → length (lines_below g) ≤ words_a_line * ones m
  unfolding book_map
  below_all g m h e = omega (arith, below_length g, ones_mono (has_line d n v k) g group_count h, ap ones e)

-- six amounts as machine words hold them
pub six_back : (a b c e f h : ℤ) (l : List ℤ) → (a ∷ b ∷ c ∷ e ∷ f ∷ h ∷ []) ≡ l → Small l
    → (to_z w64 (of_z w64 a) ∷ to_z w64 (of_z w64 b) ∷ to_z w64 (of_z w64 c) ∷ to_z w64 (of_z w64 e) ∷ to_z w64 (of_z w64 f) ∷ to_z w64 (of_z w64 h) ∷ []) ≡ l
six_back a b c e f h l q s =
    let t : Small (a ∷ b ∷ c ∷ e ∷ f ∷ h ∷ []) = rw q s in
    (λ i. back {v = a} refl (t.small 0 (omega arith)) i ∷ back {v = b} refl (t.small 1 (omega arith)) i ∷ back {v = c} refl (t.small 2 (omega arith)) i
    ∷ back {v = e} refl (t.small 3 (omega arith)) i ∷ back {v = f} refl (t.small 4 (omega arith)) i ∷ back {v = h} refl (t.small 5 (omega arith)) i ∷ [])
    ∙ q

-- the fifth is the margin
pub fifth : (d : List ℕ) (n v : ℕ → ℤ) (k g : ℕ) (a b c e f h : ℤ) → (a ∷ b ∷ c ∷ e ∷ f ∷ h ∷ []) ≡ line_amounts d n v k g → f ≡ margin d n v k g
unfolding line_amounts
fifth d n v k g a b c e f h q = ap (λ (l : List ℤ). get_or l 4 (pos 0)) q
