-- U10, the worst moment of a day: the trades t are added one by one to the opening batch b, "the account kept rewritten as in U7"; d is the day file. Words in quotes are the request's.
use Rattle.std.specs.Prelude.{Bool, not, ◌||◌, cond, List, [], ◌∷◌, ℕ, zero, suc, ◌+◌, ◌*◌, ◌/◌, ◌%◌, eqb, ltb, ℤ, ◌+ℤ◌, length, get_or, is_ok, Result, Ok, Err}
use Rattle.numbers.specs.Definitions.{sum_n_where, highest, earliest}
use Rattle.model.specs.declared.Check.{Check}
use Rattle.model.specs.declared.Check.TheVariants.{Netting}
use Rattle.model.specs.declared.NettingFault.TheVariants.{BadTrades}
use Rattle.model.specs.declared.Moment.{Moment}
use Rattle.model.specs.Outcomes.{Verdict, Answer}
use Rattle.model.specs.Limits.{most_trades}
use Rattle.model.specs.Rows.{tried, plain_row}
use Rattle.model.specs.Batch.{record_words}
use Rattle.model.specs.Netting.{net, dvp}
use Rattle.model.specs.Steps.Lines.{total}
use Rattle.model.specs.Rewriting.{rewriting, added}
use Rattle.model.specs.RewritingChecks.{rewrite_check, add_check}

-- ---- the list of trades, "records of the batch's six-word shape"

abbrev pub trade_count : List ℕ → ℕ
trade_count t = length t / record_words

abbrev pub trade_word : List ℕ → ℕ → ℕ → ℕ
trade_word t i j = get_or t (record_words * i + j) 0

-- trade i, from 0; it is step i + 1
abbrev pub trade_at : List ℕ → ℕ → List ℕ
trade_at t i = trade_word t i 0 ∷ trade_word t i 1 ∷ trade_word t i 2 ∷ trade_word t i 3 ∷ trade_word t i 4 ∷ trade_word t i 5 ∷ []

-- "a list that isn't whole records or is longer than the limit"
unfoldable pub row62 : List ℕ → Bool
row62 t = not (eqb (length t % record_words) 0) || ltb most_trades (trade_count t)

-- "tried after the opening batch is accepted and rewritten"
unfoldable pub worst_check : List ℕ → List ℕ → List ℕ → Verdict
worst_check d b t = tried (rewrite_check d b ∷ plain_row (Netting BadTrades) (row62 t) ∷ [])

-- ---- the steps

module _ (d b t : List ℕ) where
  -- the account after n steps: "a step that would be refused is left out"
  unfoldable pub account_after : ℕ → List ℕ
  account_after zero = rewriting b
  account_after (suc n) =
      cond (is_ok (add_check d (account_after n) (trade_at t n))) (rewriting (added (account_after n) (trade_at t n))) (account_after n)

  -- trade i is applied
  unfoldable pub applies : ℕ → Bool
  applies i = is_ok (add_check d (account_after i) (trade_at t i))

  abbrev pub left_out : ℕ → Bool
  left_out i = not (applies i)

-- the account margin "without deposits", of nets n and DVPs v
abbrev pub account_margin : List ℕ → (ℕ → ℤ) → (ℕ → ℤ) → ℤ
account_margin d n v = total d n n v 0 +ℤ total d n n v 1

-- ---- the answer

module _ (d b t : List ℕ) where
  abbrev pub margin_after : ℕ → ℤ
  margin_after n = account_margin d (net (account_after d b t n)) (dvp (account_after d b t n))

  -- "the highest account margin over the opening and all steps, the earliest step that has it (0 is the opening; left-out steps keep their numbers), and the counts of steps applied and left out"
  unfoldable pub moment : Moment
  moment =
      record {
        margin = highest margin_after (trade_count t);
        step = earliest margin_after (trade_count t);
        applied = sum_n_where (trade_count t) (applies d b t) (λ i. 1);
        left_out = sum_n_where (trade_count t) (left_out d b t) (λ i. 1);
      }

abbrev pub moment_answer : Verdict → Moment → Result Moment Check
moment_answer (Ok _) m = Ok m
moment_answer (Err k) m = Err k

unfoldable pub worst_answer : List ℕ → List ℕ → List ℕ → Result Moment Check
worst_answer d b t = moment_answer (worst_check d b t) (moment d b t)

-- ---- as a C entry returns it: value 0, or the refusal's number and place; a number lent for a part of the moment is untouched by a refusal

abbrev pub value_0 : Result Moment Check → Answer
value_0 (Ok m) = Ok 0
value_0 (Err k) = Err k

abbrev pub part_after : {A : Type 0} → (Moment → A) → Result Moment Check → A → A
part_after f (Ok m) z = f m
part_after f (Err k) z = z
