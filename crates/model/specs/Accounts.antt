-- Files written from their fields, and figures computed from them: what the worked examples are made of. Amounts are in ten-thousandths of a euro.
use Rattle.std.specs.Prelude.{List, [], ◌∷◌, ◌++◌, map, ℕ, ◌+◌, ◌*◌, ◌^◌, ℤ, pos, neg_ℤ, replicate, Ok}
use Rattle.model.specs.Outcomes.{Answer}
use Rattle.model.specs.Words.{word}
unfoldable pub use Rattle.model.specs.Batch.{position_record}
use Rattle.model.specs.Answers.{status_of, value_of}
use Rattle.model.specs.Netting.{net, dvp}
use Rattle.model.specs.Steps.{line_amounts, class_point, group_point}
use Rattle.model.specs.Calls.{verdict, answer_of, answer}
use Rattle.model.specs.Report.{longest_report}
use Rattle.model.specs.Limits.{point_count}

-- ---- a figure: what the definitions compute, and what is published

pub record Figure : Type 0 where
  pub computed : List ℤ
  pub published : List ℤ

abbrev pub all_computed : List Figure → List (List ℤ)
all_computed l = map (λ (f : Figure). f.computed) l

abbrev pub all_published : List Figure → List (List ℤ)
all_published l = map (λ (f : Figure). f.published) l

-- ---- files from their fields

-- a credit
abbrev pub minus : ℕ → ℤ
minus n = neg_ℤ (pos n)

-- one price at all ten points
abbrev pub ten : ℕ → List ℕ
ten p = replicate point_count p

abbrev pub day_file : ℕ → ℕ → List ℕ → List ℕ
day_file classes series records = word 1 (classes + 2 ^ 7 * series) ∷ records

-- an offset in percent, as its word has it: in hundredths
abbrev pub percent : ℕ → ℕ
percent p = 100 * p

-- group, class number; the eight prices and rates; offset; projected prices
abbrev pub class_record : ℕ → ℕ → List ℕ → ℕ → List ℕ → List ℕ
class_record g n rates o projected = word 2 (g + 2 ^ 5 * n) ∷ (map (word 3) rates ++ word 4 o ∷ map (word 3) projected)

-- class number, type, expiry; multiplier; strike and closing price; adjustment; theoretical prices
abbrev pub adjusted_record : ℕ → ℕ → ℕ → ℕ → List ℕ → ℕ → List ℕ → List ℕ
adjusted_record n type expiry multiplier prices a theoretical =
    word 2 (2 ^ 7 * expiry + 2 ^ 19 * type + 2 ^ 23 * n) ∷ word 4 multiplier ∷ (map (word 3) prices ++ map (word 3) (a ∷ theoretical))

-- .. with adjustment 0
abbrev pub series_record : ℕ → ℕ → ℕ → ℕ → List ℕ → List ℕ → List ℕ
series_record n type expiry multiplier prices theoretical = adjusted_record n type expiry multiplier prices 0 theoretical

abbrev pub batch_file : ℕ → List ℕ → List ℕ
batch_file count records = word 1 count ∷ records

abbrev pub no_rates : List ℕ
no_rates = replicate 8 0

-- ---- what is computed from a day file d and a batch b

-- the two numbers of an answer
abbrev pub numbers_of : Answer → List ℤ
numbers_of a = pos (status_of a) ∷ pos (value_of a) ∷ []

-- the numbers 0 .. 9
abbrev pub ten_of : (ℕ → ℤ) → List ℤ
ten_of f = f 0 ∷ f 1 ∷ f 2 ∷ f 3 ∷ f 4 ∷ f 5 ∷ f 6 ∷ f 7 ∷ f 8 ∷ f 9 ∷ []

module _ (d b : List ℕ) where
  -- the six amounts of the ordinary line of group g
  abbrev pub line_of : ℕ → List ℤ
  line_of g = line_amounts d (net b) (dvp b) 0 g

  -- the ten amounts of class c, and of group g, in the ordinary book
  abbrev pub class_points : ℕ → List ℤ
  class_points c = ten_of (class_point d (net b) 0 c)

  abbrev pub group_points : ℕ → List ℤ
  group_points g = ten_of (group_point d (net b) 0 g)

  -- the call's two numbers, with memory for the longest report
  abbrev pub answer_numbers : List ℤ
  answer_numbers = numbers_of (answer d b [] longest_report)

  -- the first of them alone, by the rows that need no memory: 0 where the account is accepted
  abbrev pub status : ℤ
  status = pos (status_of (answer_of (verdict d b []) (Ok 0)))
