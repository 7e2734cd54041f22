-- What stands in the report memory after a call that is accepted, with room: header, maps, lines, totals, and behind them the old words.
use Rattle.std.specs.Prelude.{◌≡◌, Bool, true, false, cond, ℕ, zero, suc, ◌+◌, ◌*◌, ◌≤◌, ◌<◌, length, ℤ, Ok}
use Rattle.std.proofs.Math.Path.{refl, sym, ap}
use Rattle.std.proofs.Common.{◌∙◌, arith}
use mathlib.Core.List.{List, [], ◌∷◌, ◌++◌, append_assoc}
use Rattle.std.specs.Int.Count.{ones}
use Rattle.std.proofs.Math.ListN.{get_or, drop}
use Rattle.numbers.specs.Maps.{bit, bit_one}
use Rattle.numbers.specs.Chosen.{joined, Each, chosen}
use Rattle.model.specs.Words.{word}
use Rattle.model.specs.Netting.{net, dvp}
use Rattle.model.specs.Steps.Lines.{has_line}
use Rattle.model.specs.Report.{words_of_amounts, line_words, line_count, totals, words_needed, words_a_line, words_for, report_words}
use Rattle.model.specs.Calls.{verdict, Accepted, net_after, answer, needed, memory_after}
use Rattle.model.specs.Reading.{count_in, map_in, stands_in, line_in}
use Rattle.model.proofs.Length.{nine_words}
use Rattle.model.proofs.Read.{count_read_lem, map_read, stands_read, line_read}
use Rattle.corollaries.specs.Counted.{book_blocks, line_blocks, blocks_are_lines, blocks-each, ones_are_blocks}
use Rattle.model.proofs.Outcome.{outcome-passed, memory_is}
use Rattle.model.specs.Limits.{group_count}

-- every block of a list is so
pub data All (P : List ℕ → Type 0) : List (List ℕ) → Type 0 where
  all_none : All P []
  all_more : {b : List ℕ} {l : List (List ℕ)} → P b → All P l → All P (b ∷ l)

all_append : {P : List ℕ → Type 0} {l m : List (List ℕ)} → All P l → All P m → All P (l ++ m)
all_append all_none q = q
all_append (all_more h p) q = all_more h (all_append p q)

all_one : {P : List ℕ → Type 0} (t : Bool) (b : List ℕ) → (t ≡ true → P b) → All P (cond t (b ∷ []) [])
all_one true b h = all_more (h refl) all_none
all_one false b h = all_none

all_chosen : {P : List ℕ → Type 0} (t : ℕ → Bool) (L : ℕ → List ℕ) (n : ℕ) → ((i : ℕ) → i < n → t i ≡ true → P (L i)) → All P (chosen t L n)
unfolding chosen
all_chosen t L zero h = all_none
all_chosen t L (suc n) h = all_append (all_chosen t L n (λ i p. h i (omega arith))) (all_one (t n) (L n) (h n (omega arith)))

-- the block is the line that the maps of w give to some group of some book, and has its key
pub record LineOf (w block : List ℕ) : Type 0 where
  pub group : ℕ
  pub book : ℕ
  pub group_below : group < group_count
  pub book_below : book < 2
  pub stands : stands_in w book group ≡ 1
  pub words : block ≡ line_in w book group
  pub key : get_or block 0 0 ≡ word 2 (group + 32 * book)

-- w is a report of n words, written over the front of the memory m
pub record Layout (n : ℕ) (w m : List ℕ) : Type 0 where
  -- the line blocks, and the nine words of the totals
  pub lines : List (List ℕ)
  pub amounts : List ℕ
  -- 13 words and 19 for each line that the header counts
  pub long : n ≡ words_for (count_in w)
  -- the header's count is the number of ones in the two maps, and of the line blocks
  pub ones_counted : count_in w ≡ ones (map_in w 0) + ones (map_in w 1)
  pub lines_counted : count_in w ≡ length lines
  pub each_nineteen : Each words_a_line lines
  pub nine : length amounts ≡ 9
  -- header, two maps, the lines, a kind 7 word of payload 0, the totals, and the rest of the memory untouched
  pub whole : w ≡ word 1 (count_in w) ∷ word 4 (map_in w 0) ∷ word 4 (map_in w 1) ∷ (joined lines ++ ((word 7 0 ∷ amounts) ++ drop n m))
  -- each line is that of a group and book whose bit is set, and has their key; each set bit has such a line
  pub lines_mapped : All (LineOf w) lines
  pub bits_keyed : (k g : ℕ) → k < 2 → g < group_count → stands_in w k g ≡ 1 → get_or (line_in w k g) 0 0 ≡ word 2 (g + 32 * k)

-- n are the nets by which a group has a line, u those of its amounts
module _ (d : List ℕ) (n u v : ℕ → ℤ) where
  key-first : (k g : ℕ) → get_or (line_words d u v k g) 0 0 ≡ word 2 (g + 32 * k)
  unfolding line_words
  key-first k g = refl

  line_of : (rest : List ℕ) (k g : ℕ) → k < 2 → g < group_count → has_line d n v k g ≡ true → LineOf (report_words d n u v ++ rest) (line_words d u v k g)
  line_of rest k g hk hg e =
      record {
        group = g;
        book = k;
        group_below = hg;
        book_below = hk;
        stands = stands_read d n u v rest k g hk hg ∙ ap bit e;
        words = sym (line_read d n u v rest k g hk hg e);
        key = key-first k g;
      }

  every_line : (rest : List ℕ) → All (LineOf (report_words d n u v ++ rest)) (line_blocks d n u v)
  unfolding line_blocks book_blocks
  every_line rest =
      all_append (all_chosen (has_line d n v 0) (line_words d u v 0) group_count (λ g p e. line_of rest 0 g (omega arith) p e))
      (all_chosen (has_line d n v 1) (line_words d u v 1) group_count (λ g p e. line_of rest 1 g (omega arith) p e))

  pub laid : (m : List ℕ) → Layout (words_needed d n v) (report_words d n u v ++ drop (words_needed d n v) m) m
  unfolding words_needed line_count
  laid m =
      let rest = drop (words_needed d n v) m in
      record {
        lines = line_blocks d n u v;
        amounts = words_of_amounts (totals d n u v);
        long = ap words_for (sym (count_read_lem d n u v rest));
        ones_counted = count_read_lem d n u v rest ∙ sym (λ i. ones (map_read d n u v rest 0 (omega arith) i) + ones (map_read d n u v rest 1 (omega arith) i));
        lines_counted = count_read_lem d n u v rest ∙ ones_are_blocks d n u v;
        each_nineteen = blocks-each d n u v;
        nine = nine_words d n u v;
        whole =
            ap (λ (l : List ℕ). l ++ rest) (blocks_are_lines d n u v)
            ∙ (λ i. word 1 (sym (count_read_lem d n u v rest) i) ∷ word 4 (sym (map_read d n u v rest 0 (omega arith)) i) ∷ word 4 (sym (map_read d n u v rest 1 (omega arith)) i)
            ∷ append_assoc (joined (line_blocks d n u v)) (word 7 0 ∷ words_of_amounts (totals d n u v)) rest i);
        lines_mapped = every_line rest;
        bits_keyed =
            λ k g hk hg e.
            ap (λ (l : List ℕ). get_or l 0 0)
            (line_read d n u v rest k g hk hg (bit_one (has_line d n v k g) (sym (stands_read d n u v rest k g hk hg) ∙ e)))
            ∙ key-first k g;
      }

answered : (d b x : List ℕ) (room : ℕ) → Accepted d b x → needed d b ≤ room → answer d b x room ≡ Ok (needed d b)
unfolding answer
answered d b x room a h = outcome-passed (verdict d b x) (needed d b) room a h

-- accepted, with room: the answer is a report of so many words, and the memory is laid out so
pub record Written (d b x m : List ℕ) : Type 0 where
  pub says : answer d b x (length m) ≡ Ok (needed d b)
  pub memory : Layout (needed d b) (memory_after d b x m) m

pub accepted_writes : (d b x m : List ℕ) → Accepted d b x → needed d b ≤ length m → Written d b x m
accepted_writes d b x m a h = record { says = answered d b x (length m) a h; memory = rw (memory_is d b x m a h) (laid d (net b) (net_after d b x) (dvp b) m) }
