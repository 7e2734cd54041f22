-- U7: a batch with one record for each position whose net or DVP isn't zero. Words in quotes are the request's.
use Rattle.std.specs.Prelude.{List, ◌∷◌, ◌++◌, ℕ, suc, ◌+◌, ◌/◌, ◌%◌, ℤ, pos, negsuc, length, drop}
use Rattle.numbers.specs.Definitions.{chosen, joined}
use Rattle.model.specs.Words.{word}
use Rattle.model.specs.Batch.{record_count, position_record}
use Rattle.model.specs.Netting.{position, position_count, net, dvp}
use Rattle.model.specs.Steps.Positions.{held}

-- "ordered by series place, then open before exercised, then ordinary before fail": the position at place i of this order
abbrev pub in_order : ℕ → ℕ
in_order i = position (i % 2) (i / 2 % 2) (i / 4)

-- "at least one quantity is zero": a net short is short, a net long is long
abbrev pub long_of : ℤ → ℕ
long_of (pos n) = 0
long_of (negsuc n) = suc n

abbrev pub short_of : ℤ → ℕ
short_of (pos n) = n
short_of (negsuc n) = 0

module _ (n v : ℕ → ℤ) where
  -- the record of the position with key p, of its net and its DVP
  abbrev pub record_for : ℕ → List ℕ
  record_for p = position_record p (long_of (n p)) (short_of (n p)) (v p)

  -- "one record for each position whose net or DVP isn't zero"
  unfoldable pub held_records : List (List ℕ)
  held_records = chosen (λ i. held n v (in_order i)) (λ i. record_for (in_order i)) position_count

  -- the batch of them
  unfoldable pub rewritten : List ℕ
  rewritten = word 1 (length held_records) ∷ joined held_records

-- a batch rewritten
abbrev pub rewriting : List ℕ → List ℕ
rewriting b = rewritten (net b) (dvp b)

-- "the batch with that record as its last": w are the words of the record
unfoldable pub added : List ℕ → List ℕ → List ℕ
added b w = word 1 (record_count b + 1) ∷ (drop 1 b ++ w)
