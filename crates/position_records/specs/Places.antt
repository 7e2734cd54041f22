-- What a loop over the places of the order counts and writes. n and v are the nets and DVPs, m the memory.
use Rattle.std.specs.Prelude.{◌≡◌, refl, true, false, List, [], ◌∷◌, ◌++◌, ℕ, ◌+◌, ◌*◌, ◌/◌, ◌≤◌, ◌<◌, ℤ, nat_abs, length, drop, set}
use Rattle.std.proofs.Common.{sym, ap, ◌∙◌, arith, append-nil, length-append}
use Rattle.numbers.specs.Put.{put, put-none, put-put, put_head}
use Rattle.numbers.specs.Chosen.{joined, joined-append, joined_length, chosen, chosen_none, chosen_yes, chosen_no, chosen-each, chosen_grows}
use Rattle.model.specs.Limits.{quantity_limit, dvp_amount_limit}
use Rattle.model.specs.Words.{word}
use Rattle.model.specs.Batch.{record_words, batch_words}
use Rattle.model.specs.Netting.{places, position_count}
use Rattle.model.specs.Rewriting.{held_records, rewritten}
use Rattle.model.proofs.HeldRecords.{held_at, record_at_place, held_most, rewritten_length}

-- nets and DVPs that a record can hold
pub record Within (n v : ℕ → ℤ) : Type 0 where
  pub nets : (p : ℕ) → p < position_count → nat_abs (n p) ≤ quantity_limit
  pub dvps : (p : ℕ) → p < position_count → nat_abs (v p) ≤ dvp_amount_limit

-- the positions of a series, next to each other in the order
abbrev pub series_positions : ℕ
series_positions = position_count / places

module _ (n v : ℕ → ℤ) where
  -- the records of the first i places
  abbrev pub records_to : ℕ → List (List ℕ)
  records_to i = chosen (held_at n v) (record_at_place n v) i

  -- ---- counted

  pub count_none : 0 ≡ length (records_to 0)
  count_none = sym (ap length (chosen_none (held_at n v) (record_at_place n v)))

  pub count_yes : (i : ℕ) → held_at n v i ≡ true → length (records_to (i + 1)) ≡ length (records_to i) + 1
  count_yes i e = ap length (chosen_yes (held_at n v) (record_at_place n v) i e) ∙ length-append (records_to i) (record_at_place n v i ∷ [])

  pub count_no : (i : ℕ) → held_at n v i ≡ false → length (records_to (i + 1)) ≡ length (records_to i)
  count_no i e = ap length (chosen_no (held_at n v) (record_at_place n v) i e)

  pub count_grows : (i j : ℕ) → i ≤ j → length (records_to i) ≤ length (records_to j)
  count_grows = chosen_grows (held_at n v) (record_at_place n v)

  pub count_most : (i : ℕ) → i ≤ position_count → length (records_to i) ≤ position_count
  unfolding held_records
  count_most i h = omega (arith, count_grows i position_count h, held_most n v)

  -- ---- written

  words_to : (i : ℕ) → length (joined (records_to i)) ≡ record_words * length (records_to i)
  words_to i = joined_length (chosen-each (held_at n v) (record_at_place n v) record_words (λ j. refl) i)

  -- the memory with the records of the first i places behind its first word
  abbrev pub written_to : List ℕ → ℕ → List ℕ
  written_to m i = put 1 (joined (records_to i)) m

  pub write_none : (m : List ℕ) → m ≡ written_to m 0
  unfolding joined
  write_none m = sym (ap (λ (l : List (List ℕ)). put 1 (joined l) m) (chosen_none (held_at n v) (record_at_place n v)) ∙ put-none 1 m)

  pub write_yes : (m : List ℕ) (i : ℕ) → held_at n v i ≡ true → batch_words (length (records_to (i + 1))) ≤ length m
      → put (batch_words (length (records_to i))) (record_at_place n v i) (written_to m i) ≡ written_to m (i + 1)
  unfolding joined
  write_yes m i e h =
      put-put 1 (joined (records_to i)) (record_at_place n v i) m (batch_words (length (records_to i))) (omega (arith, words_to i)) (omega (arith, count_yes i e))
      ∙ ap (λ (l : List ℕ). put 1 l m)
      (ap (λ (l : List ℕ). joined (records_to i) ++ l) (sym (append-nil (record_at_place n v i)))
      ∙ sym (joined-append (records_to i) (record_at_place n v i ∷ []))
      ∙ ap joined (sym (chosen_yes (held_at n v) (record_at_place n v) i e)))

  pub write_no : (m : List ℕ) (i : ℕ) → held_at n v i ≡ false → written_to m i ≡ written_to m (i + 1)
  write_no m i e = ap (λ (l : List (List ℕ)). put 1 (joined l) m) (sym (chosen_no (held_at n v) (record_at_place n v) i e))

  -- where the positions held are all in the first k places
  module _ (k : ℕ) (all : held_records n v ≡ records_to k) where
    -- there is room for the record of place i, behind those before it
    pub write_room : k ≤ position_count → (i count : ℕ) → count ≡ length (records_to i) → held_at n v i ≡ true → i < k
        → (count < position_count) × (batch_words (count + 1) ≤ length (rewritten n v))
    write_room most i count e t h =
        let q = count_yes i t in
        (omega (arith, q, e, count_most (i + 1) (omega arith)), omega (arith, q, e, count_grows (i + 1) k (omega arith), ap length all, rewritten_length n v))

    -- behind them the header: the batch over the front of the memory
    pub write_all : (m : List ℕ) (count : ℕ) → count ≡ length (records_to k) → length (rewritten n v) ≤ length m
        → set (written_to m k) 0 (word 1 count) ≡ rewritten n v ++ drop (length (rewritten n v)) m
    unfolding rewritten
    write_all m count e h =
        put_head (word 1 count) (joined (records_to k)) m (omega (arith, rewritten_length n v))
        ∙ (λ i. (word 1 (e i) ∷ joined (records_to k)) ++ drop (length (word 1 (e i) ∷ joined (records_to k))) m)
        ∙ ap (λ (l : List (List ℕ)). (word 1 (length l) ∷ joined l) ++ drop (length (word 1 (length l) ∷ joined l)) m) (sym all)
