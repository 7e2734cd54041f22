-- No other call refuses with 31 or 32: not the report over words or over bytes, nor the call for many accounts, whose results are reports' answers.
use Rattle.std.specs.Prelude.{◌≡◌, ◌≢◌, refl, Bool, true, false, cond, ◌||◌, List, [], ℕ, ◌/◌, leb, eqb, Option, Some, None, Ok, Err}
use Rattle.std.proofs.Common.{sym, ◌∙◌, true≢false, eq-eqb}
use Rattle.numbers.specs.Tests.{or_left, or_right}
use Rattle.model.specs.declared.Check.{Check}
use Rattle.model.specs.declared.Check.TheVariants.{Bytes, DayHeader, DayLength, DayWords, Classes, Series, BatchHeader, BatchLength, BatchWords, Positions, Netting, Accounts}
use Rattle.model.specs.declared.BytesFault.TheVariants.{DayFile, BatchFile}
use Rattle.model.specs.declared.DayHeaderFault.TheVariants.{BadDayHeader}
use Rattle.model.specs.declared.DayLengthFault.TheVariants.{BadDayLength}
use Rattle.model.specs.declared.DayWordsFault.TheVariants.{BadDayWord}
use Rattle.model.specs.declared.ClassFault.TheVariants.{ClassOrder, OffsetDiffers, PriceOrder}
use Rattle.model.specs.declared.SeriesFault.TheVariants.{ClassAbsent, SeriesOrder, BadType}
use Rattle.model.specs.declared.BatchHeaderFault.TheVariants.{BadBatchHeader}
use Rattle.model.specs.declared.BatchLengthFault.TheVariants.{BadBatchLength}
use Rattle.model.specs.declared.BatchWordsFault.TheVariants.{WrongKind, OutOfRange, MinusZero}
use Rattle.model.specs.declared.PositionFault.TheVariants.{SeriesAbsent, ExercisedNonOption, FailNonSecurity, DvpNonSecurity}
use Rattle.model.specs.declared.NettingFault.TheVariants.{NetTooLarge, BadDeposit, UnlikeMultipliers}
use Rattle.model.specs.declared.AccountsFault.TheVariants.{BadLengths, ShortResults}
use Rattle.model.specs.declared.ReportFault.TheVariants.{TooShort}
use Rattle.model.specs.Outcomes.{Verdict, Answer}
use Rattle.model.specs.Answers.{number_of, status_of}
use Rattle.model.specs.Rows.{tried, plain_row, found_row}
use Rattle.model.specs.DayChecks.{class_check, series_check, record_check, day_check}
use Rattle.model.specs.BatchChecks.{word_check, batch_form, position_check, batch_check}
use Rattle.model.specs.Netting.{netting_check}
use Rattle.model.specs.DepositChecks.{deposit_check}
use Rattle.model.specs.Calls.{verdict, answer, answer_of, room_answer, needed}
use Rattle.model.specs.Bytes.{words_of, bytes_check, byte_answer}
use Rattle.model.specs.ManyAccounts.{accounts_check, reports_answer}
use Rattle.model.proofs.Verdicts.{Each, ◌then◌, tried-each}

-- the numbers of the two rows
abbrev new : ℕ → Bool
new n = eqb n 31 || eqb n 32

-- a verdict of neither
record Old (v : Verdict) : Type 0 where
  old : new (status_of (answer_of v (Ok 0))) ≡ false

all_old : (l : List Verdict) → Each Old l → Old (tried l)
all_old l h = tried-each Old (record { old = refl }) l h

plain_old : (k : ℕ → Check) (b : Bool) → new (number_of (k 0)) ≡ false → Old (plain_row k b)
plain_old k true h = record { old = h }
plain_old k false h = record { old = refl }

found_old : (k : ℕ → Check) → ((i : ℕ) → new (number_of (k i)) ≡ false) → (f : Option ℕ) → Old (found_row k f)
found_old k h (Some i) = record { old = h i }
found_old k h None = record { old = refl }

module _ (d : List ℕ) where
  day_old : Old (day_check d)
  unfolding day_check record_check class_check series_check
  day_old =
      all_old _
      (plain_old (DayHeader BadDayHeader) _ refl
      then plain_old (DayLength BadDayLength) _ refl
      then all_old _
      (found_old (DayWords BadDayWord) (λ i. refl) _
      then all_old _ (found_old (Classes ClassOrder) (λ i. refl) _ then found_old (Classes OffsetDiffers) (λ i. refl) _ then found_old (Classes PriceOrder) (λ i. refl) _ then tt)
      then all_old _
      (found_old (Series ClassAbsent) (λ i. refl) _ then found_old (Series SeriesOrder) (λ i. refl) _ then found_old (Series BadType) (λ i. refl) _ then tt)
      then tt)
      then tt)

  batch_old : (b : List ℕ) → Old (batch_check d b)
  unfolding batch_check batch_form word_check position_check
  batch_old b =
      all_old _
      (all_old _
      (plain_old (BatchHeader BadBatchHeader) _ refl
      then plain_old (BatchLength BadBatchLength) _ refl
      then all_old _
      (found_old (BatchWords WrongKind) (λ i. refl) _ then found_old (BatchWords OutOfRange) (λ i. refl) _ then found_old (BatchWords MinusZero) (λ i. refl) _ then tt)
      then tt)
      then all_old _
      (found_old (Positions SeriesAbsent) (λ i. refl) _
      then found_old (Positions ExercisedNonOption) (λ i. refl) _
      then found_old (Positions FailNonSecurity) (λ i. refl) _
      then found_old (Positions DvpNonSecurity) (λ i. refl) _
      then tt)
      then tt)

  verdict_old : (b x : List ℕ) → Old (verdict d b x)
  unfolding verdict netting_check deposit_check
  verdict_old b x =
      all_old _
      (day_old
      then batch_old b
      then found_old (Netting NetTooLarge) (λ i. refl) _
      then all_old _
      (plain_old (Netting BadDeposit) _ refl then found_old (Netting BadDeposit) (λ i. refl) _ then found_old (Netting UnlikeMultipliers) (λ i. refl) _ then tt)
      then tt)

-- ---- the answers

answer_old : (v : Verdict) (a : Answer) → Old v → new (status_of a) ≡ false → new (status_of (answer_of v a)) ≡ false
answer_old (Ok _) a h q = q
answer_old (Err k) a h q = h.old

room_old : (n : ℕ) (b : Bool) → new (status_of (cond b (Ok n) (Err (Check.Report TooShort n)))) ≡ false
room_old n true = refl
room_old n false = refl

neither : (n : ℕ) → new n ≡ false → (n ≢ 31) × (n ≢ 32)
neither n e =
    (λ q. true≢false (sym (eq-eqb n 31 q) ∙ or_left (eqb n 31) (eqb n 32) e), λ q. true≢false (sym (eq-eqb n 32 q) ∙ or_right (eqb n 31) (eqb n 32) e))

words_old : (d b x : List ℕ) (room : ℕ) → new (status_of (answer d b x room)) ≡ false
unfolding answer
words_old d b x room = answer_old (verdict d b x) (room_answer (needed d b) room) (verdict_old d b x) (room_old (needed d b) (leb (needed d b) room))

pub not_in_reports : (d b x : List ℕ) (room : ℕ) → (status_of (answer d b x room) ≢ 31) × (status_of (answer d b x room) ≢ 32)
not_in_reports d b x room = neither (status_of (answer d b x room)) (words_old d b x room)

pub not_in_bytes : (day b : List ℕ) (room : ℕ) → (status_of (byte_answer day b room) ≢ 31) × (status_of (byte_answer day b room) ≢ 32)
unfolding byte_answer bytes_check
not_in_bytes day b room =
    neither (status_of (byte_answer day b room))
    (answer_old (bytes_check day b) (answer (words_of day) (words_of b) [] (room / 4))
    (all_old _ (plain_old (Bytes DayFile) _ refl then plain_old (Bytes BatchFile) _ refl then tt)) (words_old (words_of day) (words_of b) [] (room / 4)))

pub not_in_accounts : (d bs ns : List ℕ) (entries room : ℕ) → (status_of (reports_answer d bs ns entries room) ≢ 31) × (status_of (reports_answer d bs ns entries room) ≢ 32)
unfolding reports_answer accounts_check
not_in_accounts d bs ns entries room =
    neither (status_of (reports_answer d bs ns entries room))
    (answer_old (accounts_check bs ns entries) _ (all_old _ (plain_old (Accounts BadLengths) _ refl then plain_old (Accounts ShortResults) _ refl then tt)) refl)
