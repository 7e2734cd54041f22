-- The call over words: its answer and the report memory afterwards, for every day file d, batch b, list of deposits x and memory m.
use Rattle.std.specs.Prelude.{◌≡◌, cond, List, [], ◌∷◌, ◌++◌, ℕ, leb, ℤ, length, drop, Ok, Err}
use Rattle.model.specs.Outcomes.{Answer}
use Rattle.model.specs.declared.Check.{Check}
use Rattle.model.specs.declared.ReportFault.TheVariants.{TooShort}
use Rattle.model.specs.Outcomes.{Verdict}
use Rattle.model.specs.Rows.{tried}
use Rattle.model.specs.DayChecks.{day_check}
use Rattle.model.specs.BatchChecks.{batch_check}
use Rattle.model.specs.Netting.{net, dvp, netting_check}
use Rattle.model.specs.DepositChecks.{deposit_check}
use Rattle.model.specs.Steps.{covered}
use Rattle.model.specs.Report.{report_words, words_needed}

-- the rows above 40
unfoldable pub verdict : List ℕ → List ℕ → List ℕ → Verdict
verdict d b x = tried (day_check d ∷ batch_check d b ∷ netting_check d b ∷ deposit_check d x ∷ [])

abbrev pub Accepted : List ℕ → List ℕ → List ℕ → Type 0
Accepted d b x = verdict d b x ≡ Ok tt

-- the nets that the amounts are of: after cover (U5)
abbrev pub net_after : List ℕ → List ℕ → List ℕ → ℕ → ℤ
net_after d b x = covered d x (net b)

abbrev pub report : List ℕ → List ℕ → List ℕ → List ℕ
report d b x = report_words d (net b) (net_after d b x) (dvp b)

-- deposits make no line and take none away
abbrev pub needed : List ℕ → List ℕ → ℕ
needed d b = words_needed d (net b) (dvp b)

-- row 40, or the length
abbrev pub room_answer : ℕ → ℕ → Answer
room_answer n room = cond (leb n room) (Ok n) (Err (Check.Report TooShort n))

abbrev pub answer_of : Verdict → Answer → Answer
answer_of (Ok _) a = a
answer_of (Err k) a = Err k

-- the answer of a call that tries the rows v and then has n words to write, where the memory has this many
abbrev pub outcome : Verdict → ℕ → ℕ → Answer
outcome v n room = answer_of v (room_answer n room)

unfoldable pub answer : List ℕ → List ℕ → List ℕ → ℕ → Answer
answer d b x room = outcome (verdict d b x) (needed d b) room

-- what an answer leaves: the words over the front of the memory; of a refusal nothing
abbrev pub written : Answer → List ℕ → List ℕ → List ℕ
written (Ok n) w m = w ++ drop n m
written (Err k) w m = m

unfoldable pub memory_after : List ℕ → List ℕ → List ℕ → List ℕ → List ℕ
memory_after d b x m = written (answer d b x (length m)) (report d b x) m
