-- The value of every answer, a length or a place, is below 2 ^ 32.
use Rattle.std.specs.Prelude.{Option, Some, None, Ok, Err}
use mathlib.Core.Path.{◌≡◌, refl}
use mathlib.Core.Bool.{Bool, true, false, not, cond}
use mathlib.Core.List.{List, [], ◌∷◌}
use Prim.Native.Nat.{ℕ, ◌+◌, ◌/◌, ◌^◌, ◌<◌}
use native.Mathlib.Omega.{arith}
use lib.Dec.{leb}
use lib.IntN.{ℤ, pos, ◌*ℤ◌}
use Rattle.std.specs.Int.Signed.{quot_z}
use lib.ListN.{length}
use Rattle.numbers.specs.Scan.{first_bad, first_at, first-before}
use Rattle.model.specs.Outcomes.{Answer}
use Rattle.model.specs.declared.Check.{Check}
use Rattle.model.specs.declared.Check.TheVariants.{Bytes, DayHeader, DayLength, DayWords, Classes, Series, BatchHeader, BatchLength, BatchWords, Positions, Netting, Accounts}
use Rattle.model.specs.declared.BytesFault.TheVariants.{DayFile, BatchFile}
use Rattle.model.specs.declared.DayHeaderFault.TheVariants.{BadDayHeader}
use Rattle.model.specs.declared.DayLengthFault.TheVariants.{BadDayLength}
use Rattle.model.specs.declared.DayWordsFault.TheVariants.{BadDayWord}
use Rattle.model.specs.declared.ClassFault.TheVariants.{ClassOrder, OffsetDiffers, PriceOrder}
use Rattle.model.specs.declared.SeriesFault.TheVariants.{ClassAbsent, SeriesOrder, BadType}
use Rattle.model.specs.declared.BatchHeaderFault.TheVariants.{BadBatchHeader}
use Rattle.model.specs.declared.BatchLengthFault.TheVariants.{BadBatchLength}
use Rattle.model.specs.declared.BatchWordsFault.TheVariants.{NotWholeCents, CentsTooLarge}
use Rattle.model.specs.declared.WordRow.{WordRow}
use Rattle.model.specs.declared.WordRow.TheVariants.{Row22, Row27, Row28}
use Rattle.model.specs.declared.PositionFault.TheVariants.{SeriesAbsent, ExercisedNonOption, FailNonSecurity, DvpNonSecurity}
use Rattle.model.specs.declared.NettingFault.TheVariants.{NetTooLarge, DvpTooLarge, NoSpace, BadDeposit, UnlikeMultipliers, BadTrades}
use Rattle.model.specs.declared.ReportFault.TheVariants.{TooShort}
use Rattle.model.specs.declared.AccountsFault.TheVariants.{BadLengths, ShortResults}
use Rattle.model.specs.Outcomes.{Verdict}
use Rattle.model.specs.Answers.{place_of, value_of}
use Rattle.model.specs.Rows.{tried, plain_row, found_row, record_row}
use Rattle.model.specs.DayFile.{class_count, series_count}
use Rattle.model.specs.DayChecks.{row10, row11, row12, row13, row14, row18, row15, row16, row17, class_check, series_check, record_check, day_check}
use Rattle.model.specs.Batch.{batch_header, record_count, batch_words}
use Rattle.model.specs.BatchChecks.{row20, row21, row_of, fault_of, word_row, row23, row24, row25, row26, word_check, batch_form, position_check, batch_check}
use Rattle.model.specs.Netting.{net, dvp, row30, netting_check}
use Rattle.model.specs.Deposits.{deposit_count}
use Rattle.model.specs.DepositChecks.{odd_words, row50, row51, deposit_check}
use Rattle.model.specs.Calls.{verdict, answer, answer_of, room_answer, outcome, needed}
use Rattle.model.specs.Rewriting.{rewriting, added}
use Rattle.model.specs.RewritingChecks.{row31, row32, dvp_check, space_check, rewriting_check, rewrite_check, added_row21, add_check}
use Rattle.model.specs.RewritingCalls.{rewrite_answer, add_answer}
use Rattle.model.specs.declared.Moment.{Moment}
use Rattle.model.specs.WorstMoment.{row62, worst_check, moment, moment_answer, worst_answer, value_0}
use Rattle.model.specs.Cents.{is_in_cents, cents_bit, unmarked, cent, with_amounts, to_cents, from_cents}
use Rattle.model.specs.CentsChecks.{row33, row34, to_cents_check, from_cents_check}
use Rattle.model.specs.CentsCalls.{to_cents_answer, from_cents_answer}
use Rattle.model.specs.Bytes.{words_of, row1, row2, bytes_check, byte_answer}
use Rattle.model.specs.ManyAccounts.{batch_of, row60, row61, accounts_check, report_start, reports_answer}
use Rattle.model.proofs.Accepted.{clear}
use Rattle.model.proofs.Cents.{converted_length}
use Rattle.model.proofs.Headed.{headed_length}
use Rattle.model.proofs.DepositOrders.{few_passed}
use Rattle.model.proofs.Outcome.{needed_most}
use Rattle.model.proofs.HeldRecords.{held_most, rewritten_length}
use Rattle.model.proofs.ManyAccounts.{accounts_checked, start_most}
use Rattle.model.proofs.Verdicts.{Each, ◌then◌, tried-each}

abbrev place_in : Verdict → ℕ
place_in (Ok _) = 0
place_in (Err k) = place_of k

record Low (v : Verdict) : Type 0 where
  low : place_in v < 2 ^ 32

all_low : (l : List Verdict) → Each Low l → Low (tried l)
all_low l h = tried-each Low (record { low = omega arith }) l h

plain_low : (k : ℕ → Check) (b : Bool) → place_of (k 0) ≡ 0 → Low (plain_row k b)
plain_low k true e = record { low = omega (arith, e) }
plain_low k false e = record { low = omega arith }

record_low : (k : ℕ → Check) (t : ℕ → Bool) (n : ℕ) → ((i : ℕ) → place_of (k i) ≡ i) → n < 2 ^ 32 → Low (record_row k t n)
record_low k t n e h = by (first_bad t n) refl
  where
    by : (f : Option ℕ) → first_bad t n ≡ f → Low (found_row k f)
    by (Some i) q = record { low = omega (arith, e i, (first_at t n i q).0) }
    by None q = record { low = omega arith }

day_low : (d : List ℕ) → Low (day_check d)
unfolding day_check record_check class_check series_check
day_low d =
    all_low _
    (plain_low (DayHeader BadDayHeader) (row10 d) refl
    then plain_low (DayLength BadDayLength) (row11 d) refl
    then all_low _
    (record_low (DayWords BadDayWord) (row12 d) (class_count d + series_count d) (λ i. refl) (omega arith)
    then all_low _
    (record_low (Classes ClassOrder) (row13 d) (class_count d) (λ i. refl) (omega arith)
    then record_low (Classes OffsetDiffers) (row14 d) (class_count d) (λ i. refl) (omega arith)
    then record_low (Classes PriceOrder) (row18 d) (class_count d) (λ i. refl) (omega arith)
    then tt)
    then all_low _
    (record_low (Series ClassAbsent) (row15 d) (series_count d) (λ i. refl) (omega arith)
    then record_low (Series SeriesOrder) (row16 d) (series_count d) (λ i. refl) (omega arith)
    then record_low (Series BadType) (row17 d) (series_count d) (λ i. refl) (omega arith)
    then tt)
    then tt)
    then tt)

word_low : (b : List ℕ) → Low (word_check b)
unfolding word_check
word_low b = all_low _ (by Row22 then by Row27 then by Row28 then tt)
  where
    by : (w : WordRow) → Low (word_row w b (record_count b))
    by w = record_low (BatchWords (fault_of w)) (row_of w b) (batch_words (record_count b)) (λ i. refl) (omega arith)

position_low : (d b : List ℕ) → Low (position_check d b)
unfolding position_check
position_low d b =
    all_low _
    (record_low (Positions SeriesAbsent) (row23 d b) (record_count b) (λ i. refl) (omega arith)
    then record_low (Positions ExercisedNonOption) (row24 d b) (record_count b) (λ i. refl) (omega arith)
    then record_low (Positions FailNonSecurity) (row25 d b) (record_count b) (λ i. refl) (omega arith)
    then record_low (Positions DvpNonSecurity) (row26 d b) (record_count b) (λ i. refl) (omega arith)
    then tt)

form_low : (b : List ℕ) → Low (batch_form b)
unfolding batch_form
form_low b =
    all_low _ (plain_low (BatchHeader BadBatchHeader) (row20 b) refl then plain_low (BatchLength BadBatchLength) (row21 b) refl then word_low b then tt)

batch_low : (d b : List ℕ) → Low (batch_check d b)
unfolding batch_check
batch_low d b = all_low _ (form_low b then position_low d b then tt)

net_low : (d b : List ℕ) → Low (netting_check d b)
unfolding netting_check
net_low d b = record_low (Netting NetTooLarge) (row30 d b) (record_count b) (λ i. refl) (omega arith)

-- a list may have any number of deposits: those before the first that row 50 refuses, and those past it, are as few as the class numbers
fifty_low : (d x : List ℕ) → Low (record_row (Netting BadDeposit) (row50 d x) (deposit_count x))
fifty_low d x = by (first_bad (row50 d x) (deposit_count x)) refl
  where
    by : (f : Option ℕ) → first_bad (row50 d x) (deposit_count x) ≡ f → Low (found_row (Netting BadDeposit) f)
    by (Some i) q = record { low = omega (arith, few_passed d x i (first-before (row50 d x) (deposit_count x) i q)) }
    by None q = record { low = omega arith }

-- the rows behind one count only where it passes
low_next : (v : Verdict) (l : List Verdict) → Low v → (v ≡ Ok tt → Low (tried l)) → Low (tried (v ∷ l))
unfolding tried
low_next (Ok _) l p q = q refl
low_next (Err k) l p q = p

deposit_low : (d x : List ℕ) → Low (deposit_check d x)
unfolding deposit_check
deposit_low d x =
    low_next _ _ (plain_low (Netting BadDeposit) (odd_words x) refl)
    (λ e. low_next _ _ (fifty_low d x)
    (λ q. all_low _ (record_low (Netting UnlikeMultipliers) (row51 d x) (deposit_count x) (λ i. refl) (omega (arith, few_passed d x (deposit_count x) (clear (Netting BadDeposit) (row50 d x) (deposit_count x) q))) then tt)))

verdict_low : (d b x : List ℕ) → Low (verdict d b x)
unfolding verdict
verdict_low d b x = all_low _ (day_low d then batch_low d b then net_low d b then deposit_low d x then tt)

room_low : (n room : ℕ) → n < 2 ^ 32 → value_of (room_answer n room) < 2 ^ 32
room_low n room h = by (leb n room)
  where
    by : (t : Bool) → value_of (cond t (Ok n) (Err (Check.Report TooShort n))) < 2 ^ 32
    by true = h
    by false = h

answer_low : (v : Verdict) (a : Answer) → Low v → (v ≡ Ok tt → value_of a < 2 ^ 32) → value_of (answer_of v a) < 2 ^ 32
answer_low (Ok _) a p q = q refl
answer_low (Err k) a p q = p.low

pub value_small : (d b x : List ℕ) (room : ℕ) → value_of (answer d b x room) < 2 ^ 32
unfolding answer
value_small d b x room =
    answer_low (verdict d b x) (room_answer (needed d b) room) (verdict_low d b x) (λ e. room_low (needed d b) room (omega (arith, needed_most d b)))

pub byte_value_small : (day batch : List ℕ) (room : ℕ) → value_of (byte_answer day batch room) < 2 ^ 32
unfolding byte_answer bytes_check
byte_value_small day batch room =
    answer_low (bytes_check day batch) (answer (words_of day) (words_of batch) [] (room / 4)) (all_low _ (plain_low (Bytes DayFile) (row1 day) refl then plain_low (Bytes BatchFile) (row2 batch) refl then tt)) (λ e. value_small (words_of day) (words_of batch) [] (room / 4))

accounts_low : (bs ns : List ℕ) (entries : ℕ) → Low (accounts_check bs ns entries)
unfolding accounts_check
accounts_low bs ns entries = all_low _ (plain_low (Accounts BadLengths) (row60 bs ns) refl then plain_low (Accounts ShortResults) (row61 ns entries) refl then tt)

pub reports_value_small : (d bs ns : List ℕ) (entries room : ℕ) → value_of (reports_answer d bs ns entries room) < 2 ^ 32
unfolding reports_answer
reports_value_small d bs ns entries room =
    answer_low (accounts_check bs ns entries) (Ok (report_start d (batch_of bs ns) room (length ns))) (accounts_low bs ns entries)
    (λ e. omega (arith, start_most d (batch_of bs ns) room (length ns), (accounts_checked bs ns entries e).few))

-- ---- a batch rewritten

rewriting_low : (d b : List ℕ) → Low (rewriting_check d b)
unfolding rewriting_check dvp_check space_check
rewriting_low d b =
    all_low _
    (net_low d b
    then record_low (Netting DvpTooLarge) (row31 b) (record_count b) (λ i. refl) (omega arith)
    then plain_low (Netting NoSpace) (row32 b) refl
    then tt)

-- whatever rows it passed
rewriting_room : (v : Verdict) (b : List ℕ) (room : ℕ) → Low v → value_of (outcome v (length (rewriting b)) room) < 2 ^ 32
rewriting_room v b room l =
    answer_low v (room_answer (length (rewriting b)) room) l
    (λ e. room_low (length (rewriting b)) room (omega (arith, rewritten_length (net b) (dvp b), held_most (net b) (dvp b))))

rewrite_low : (d b : List ℕ) → Low (rewrite_check d b)
unfolding rewrite_check
rewrite_low d b = all_low _ (day_low d then batch_low d b then rewriting_low d b then tt)

pub rewrite_value_small : (d b : List ℕ) (room : ℕ) → value_of (rewrite_answer d b room) < 2 ^ 32
unfolding rewrite_answer
rewrite_value_small d b room = rewriting_room (rewrite_check d b) b room (rewrite_low d b)

pub add_value_small : (d b w : List ℕ) (room : ℕ) → value_of (add_answer d b w room) < 2 ^ 32
unfolding add_answer add_check
add_value_small d b w room =
    rewriting_room (add_check d b w) (added b w) room
    (all_low _
    (day_low d
    then plain_low (BatchHeader BadBatchHeader) (row20 b) refl
    then plain_low (BatchLength BadBatchLength) (added_row21 b w) refl
    then word_low (added b w)
    then position_low d (added b w)
    then rewriting_low d (added b w)
    then tt))

-- ---- the worst moment of a day

moment_low : (v : Verdict) (m : Moment) → Low v → value_of (value_0 (moment_answer v m)) < 2 ^ 32
moment_low (Ok _) m p = omega arith
moment_low (Err k) m p = p.low

pub worst_value_small : (d b t : List ℕ) → value_of (value_0 (worst_answer d b t)) < 2 ^ 32
unfolding worst_answer worst_check
worst_value_small d b t = moment_low _ (moment d b t) (all_low _ (rewrite_low d b then plain_low (Netting BadTrades) (row62 t) refl then tt))

-- ---- a batch in cents

-- a batch with other amounts has as many words as its records
amounts_small : (f : ℤ → ℤ) (b : List ℕ) → length (with_amounts f b) < 2 ^ 32
unfolding with_amounts
amounts_small f b = omega (arith, converted_length f b (batch_header b) (record_count b))

pub to_cents_value_small : (b : List ℕ) (room : ℕ) → value_of (to_cents_answer b room) < 2 ^ 32
unfolding to_cents_answer to_cents_check
to_cents_value_small b room =
    answer_low _ (room_answer (length (to_cents b)) room)
    (all_low _ (form_low b then record_low (BatchWords NotWholeCents) (row33 b) (record_count b) (λ i. refl) (omega arith) then tt))
    (λ e.
    let c = with_amounts (λ z. quot_z z (pos cent)) b in
    room_low (length (to_cents b)) room (omega (arith, headed_length (batch_header c + cents_bit) c, amounts_small (λ z. quot_z z (pos cent)) b)))

pub from_cents_value_small : (b : List ℕ) (room : ℕ) → value_of (from_cents_answer b room) < 2 ^ 32
unfolding from_cents_answer from_cents_check
from_cents_value_small b room =
    answer_low _ (room_answer (length (from_cents b)) room)
    (all_low _
    (plain_low (BatchHeader BadBatchHeader) (not (is_in_cents b)) refl
    then form_low (unmarked b)
    then record_low (BatchWords CentsTooLarge) (row34 (unmarked b)) (record_count (unmarked b)) (λ i. refl) (omega arith)
    then tt))
    (λ e. room_low (length (from_cents b)) room (omega (arith, amounts_small (λ z. z *ℤ pos cent) (unmarked b))))
