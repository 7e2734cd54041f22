-- What is printed for a call, read back: the answer's number, a refusal's place, a report's line count and totals.
use Rattle.std.specs.Prelude.{◌≡◌, refl, Bool, not, ◌||◌, ℕ, ◌≤◌, length, replicate, Ok, Err, Option, Some}
use Rattle.std.proofs.Common.{sym, ap, ◌∙◌, arith}
use Rattle.std.proofs.Math.Bool.{true, false}
use mathlib.Core.List.{List, [], ◌∷◌, ◌++◌}
use Rattle.std.proofs.Math.ListN.{drop}
use Rattle.std.proofs.lemmas.List.{length-replicate}
use Rattle.model.specs.Outcomes.{Answer}
use Rattle.model.specs.declared.Check.{Check}
use Rattle.model.specs.declared.Check.TheVariants.{Bytes}
use Rattle.model.specs.declared.BytesFault.TheVariants.{DayFile, BatchFile}
use Rattle.model.specs.declared.TextSays.{TextSays}
use Rattle.model.specs.declared.TextSays.TheVariants.{Report, Refusal}
use Rattle.model.specs.Answers.{number_of, place_of, status_of, value_of}
use Rattle.model.specs.Netting.{net, dvp}
use Rattle.model.specs.Report.{line_count, longest_report}
use Rattle.model.specs.Calls.{Accepted, net_after, answer, answer_of, needed, report, memory_after}
use Rattle.model.specs.Bytes.{words_of, row1, row2}
use Rattle.model.specs.Rows.{tried, plain_row}
use Rattle.model.specs.Printed.{printed, files_check, program_text}
use Rattle.model.specs.TextReading.{text_says, report_says, answer_says, text_number, text_value}
use Rattle.model.proofs.Places.{value_small}
use Rattle.model.proofs.Read.{total_of, count_read_lem, count_small}
use Rattle.corollaries.specs.Readable.{readable}
use Rattle.corollaries.specs.Written.{accepted_writes}
use Rattle.corollaries.specs.TextReading.{refusal_read_back, report_read_back}

abbrev pub printed_says : List ℕ → List ℕ → List ℕ → List ℕ → Option TextSays
printed_says d b x m = text_says (printed (answer d b x (length m)) (memory_after d b x m))

pub record TextReadBack (d b x m : List ℕ) : Type 0 where
  -- the text of every answer says what the answer and the memory say
  pub says : printed_says d b x m ≡ answer_says (answer d b x (length m)) (memory_after d b x m)
  -- the number is the answer's, 0 for a report
  pub number : text_number (printed_says d b x m) ≡ status_of (answer d b x (length m))
  -- the value of a refusal is its place
  pub place : (k : Check) → answer d b x (length m) ≡ Err k → text_value (printed_says d b x m) ≡ value_of (answer d b x (length m))
  -- the line count and the totals of a report are those of the steps
  pub totals : Accepted d b x → needed d b ≤ length m → printed_says d b x m
      ≡ Some (Report (record { lines = line_count d (net b) (dvp b); ordinary = total_of d (net b) (net_after d b x) (dvp b) 0; fail = total_of d (net b) (net_after d b x) (dvp b) 1; account = total_of d (net b) (net_after d b x) (dvp b) 2 }))

number_of_lem : (a : Answer) (w : List ℕ) → text_number (answer_says a w) ≡ status_of a
number_of_lem (Ok n) w = refl
number_of_lem (Err k) w = refl

module _ (d b x m : List ℕ) where
  says_refusal : (k : Check) → answer d b x (length m) ≡ Err k → printed_says d b x m ≡ Some (Refusal (number_of k) (place_of k))
  says_refusal k e = rw e (refusal_read_back k (memory_after d b x m) (rw e at (value_small d b x (length m))))

  says_report : (n : ℕ) → answer d b x (length m) ≡ Ok n → printed_says d b x m ≡ report_says (memory_after d b x m)
  unfolding memory_after
  says_report n e =
      rw e (report_read_back n (report d b x ++ drop n m) (omega (arith, count_read_lem d (net b) (net_after d b x) (dvp b) (drop n m), count_small d (net b) (dvp b))))

  says_answer : (a : Answer) → answer d b x (length m) ≡ a → printed_says d b x m ≡ answer_says a (memory_after d b x m)
  says_answer (Ok n) e = says_report n e
  says_answer (Err k) e = says_refusal k e

  says_steps : Accepted d b x → needed d b ≤ length m → printed_says d b x m
      ≡ Some (Report (record { lines = line_count d (net b) (dvp b); ordinary = total_of d (net b) (net_after d b x) (dvp b) 0; fail = total_of d (net b) (net_after d b x) (dvp b) 1; account = total_of d (net b) (net_after d b x) (dvp b) 2 }))
  says_steps a h =
      let w = readable d b x m a h in
      says_report (needed d b) (accepted_writes d b x m a h).says
      ∙ λ i. Some (Report (record {
        lines = w.count i;
        ordinary = w.totals 0 (omega arith) i;
        fail = w.totals 1 (omega arith) i;
        account = w.totals 2 (omega arith) i;
      }))

  pub text_read_back : TextReadBack d b x m
  text_read_back =
      record {
        says = says_answer (answer d b x (length m)) refl;
        number = ap text_number (says_answer (answer d b x (length m)) refl) ∙ number_of_lem (answer d b x (length m)) (memory_after d b x m);
        place = λ k e. ap text_value (says_refusal k e) ∙ sym (ap value_of e);
        totals = says_steps;
      }

-- every text of the program says what the answer and its memory say
module _ (day_opened : Bool) (day : List ℕ) (batch_opened : Bool) (batch : List ℕ) where
  abbrev a : Answer
  a = answer (words_of day) (words_of batch) [] longest_report

  abbrev m : List ℕ
  m = memory_after (words_of day) (words_of batch) [] (replicate longest_report 0)

  by_files : (p q : Bool) → text_says (printed (answer_of (tried (plain_row (Bytes DayFile) p ∷ plain_row (Bytes BatchFile) q ∷ [])) a) m) ≡ answer_says (answer_of (tried (plain_row (Bytes DayFile) p ∷ plain_row (Bytes BatchFile) q ∷ [])) a) m
  unfolding tried
  by_files true q = refusal_read_back (Bytes DayFile 0) m (omega arith)
  by_files false true = refusal_read_back (Bytes BatchFile 0) m (omega arith)
  by_files false false = rw (length-replicate {A = ℕ} longest_report 0) at (text_read_back (words_of day) (words_of batch) [] (replicate longest_report 0)).says

  pub program_text_says : text_says (program_text day_opened day batch_opened batch)
      ≡ answer_says (answer_of (files_check day_opened day batch_opened batch) (answer (words_of day) (words_of batch) [] longest_report)) (memory_after (words_of day) (words_of batch) [] (replicate longest_report 0))
  unfolding program_text files_check
  program_text_says = by_files (not day_opened || row1 day) (not batch_opened || row2 batch)
