-- The program's answer for its files, and that what it prints from its memory is the model's text.
use Rattle.std.specs.Prelude.{◌≡◌, refl, Bool, true, false, not, ◌||◌, ℕ, zero, suc, ◌+◌, ◌*◌, ◌/◌, ◌≤◌, drop, replicate, Option, is_some, Ok, Err}
use Rattle.std.proofs.Common.{sym, ap, ◌∙◌, arith, append-nil, length-append, length-take-le}
use mathlib.Core.List.{List, [], ◌∷◌, ◌++◌}
use Rattle.std.proofs.Math.ListN.{length, length-replicate}
use Rattle.model.specs.Outcomes.{Answer}
use Rattle.model.specs.declared.Check.{Check}
use Rattle.model.specs.declared.Check.TheVariants.{Bytes}
use Rattle.model.specs.declared.BytesFault.TheVariants.{DayFile, BatchFile}
use Rattle.model.specs.Rows.{tried, plain_row}
use Rattle.model.specs.Outcomes.{Verdict}
use Rattle.model.specs.Netting.{net, dvp}
use Rattle.model.specs.Calls.{net_after, answer, answer_of, report, memory_after}
use Rattle.model.specs.Bytes.{row1, words_of, bytes_of, byte_answer, bytes_after, written_bytes}
use Rattle.model.specs.Printed.{files_check, program_text, printed}
use Rattle.model.proofs.ByteWords.{words_length, words_bytes, words_drop}
use Rattle.model.proofs.Outcome.{answer-report, memory_of}
use Rattle.model.proofs.Fit.{report_fits}
use Rattle.model.proofs.Read.{count_read_lem, count_small}
use Rattle.std.proofs.Math.Seq.{drop-length}
use Rattle.io.specs.Counts.{IsPrefixLen}
use Rattle.numbers.specs.Put.{put, put_front}
use Rattle.byte_check.specs.Files.{file_bytes}
use Rattle.byte_check.specs.Rows.{passed-opened}
use denote.Ref.{Bor}
use Rattle.text.specs.Room.{Room}
use Rattle.model.specs.Report.{longest_report}

abbrev pub files_answer : Bool → List ℕ → Bool → List ℕ → Answer
files_answer day_opened day batch_opened batch = answer_of (files_check day_opened day batch_opened batch) (answer (words_of day) (words_of batch) [] longest_report)

-- what the program prints for two files
abbrev pub files_text : Option (Bor (List ℕ)) → Option (Bor (List ℕ)) → List ℕ
files_text day batch = program_text (is_some day) (file_bytes day) (is_some batch) (file_bytes batch)

-- what is printed of the call over words without deposits
abbrev pub call_text : List ℕ → List ℕ → List ℕ → List ℕ
call_text d b m = printed (answer d b [] (length m)) (memory_after d b [] m)

-- ---- the answer by cases

module _ (day_opened : Bool) (day : List ℕ) (batch_opened : Bool) (batch : List ℕ) where
  pub files_refused : (k : Check) → files_check day_opened day batch_opened batch ≡ Err k → Err k ≡ files_answer day_opened day batch_opened batch
  files_refused k e = rw e

  pub files_passed : files_check day_opened day batch_opened batch ≡ Ok tt → (m : List ℕ) → m ≡ replicate (4 * longest_report) 0 → byte_answer day batch (length m) ≡ files_answer day_opened day batch_opened batch
  unfolding byte_answer
  files_passed e m q =
      rw (e, passed-opened day_opened day batch_opened batch e)
      (ap (λ (n : ℕ). answer (words_of day) (words_of batch) [] (n / 4)) (ap length q ∙ length-replicate {A = ℕ} (4 * longest_report) 0))

pub opened_bytes : (day batch : List ℕ) (r : Answer) (m : List ℕ) → m ≡ replicate (4 * longest_report) 0 → r ≡ byte_answer day batch (length m) → bytes_after day batch m ≡ written_bytes r (report (words_of day) (words_of batch) []) (replicate (4 * longest_report) 0)
unfolding bytes_after
opened_bytes day batch r m e f = rw (f, e)

-- ---- what is read from the memory

zero_words : (n : ℕ) → words_of (replicate (4 * n) 0) ≡ replicate n 0
unfolding words_of
zero_words zero = refl
zero_words (suc n) = let e : 4 * suc n ≡ suc (suc (suc (suc (4 * n)))) = omega arith in ap (λ (k : ℕ). words_of (replicate k 0)) e ∙ ap (λ (l : List ℕ). 0 ∷ l) (zero_words n)

the_report : (v : Verdict) (a : Answer) (n : ℕ) → answer_of v a ≡ Ok n → a ≡ Ok n
the_report (Ok _) a n e = e
the_report (Err k) a n e = let z : ◌≡◌ {A = ℕ} 0 1 = cc in absurd (omega arith)

-- the words of a report's bytes over zeros are the memory after the call over words
after-report : (d b : List ℕ) (n : ℕ) → answer d b [] longest_report ≡ Ok n → words_of (bytes_of (report d b []) ++ drop (4 * n) (replicate (4 * longest_report) 0)) ≡ report d b [] ++ drop n (replicate longest_report 0)
after-report d b n e =
    words_bytes (report_fits d b [] (answer-report d b [] longest_report n e).0) (drop (4 * n) (replicate (4 * longest_report) 0))
    ∙ ap (λ (l : List ℕ). report d b [] ++ l) (words_drop n (replicate (4 * longest_report) 0) ∙ ap (drop n) (zero_words longest_report))

-- the memory after a report
after-written : (d b m : List ℕ) (n : ℕ) → answer d b [] (length m) ≡ Ok n → memory_after d b [] m ≡ report d b [] ++ drop n m
after-written d b m n e = sym (memory_of d b [] m (Ok n) (sym e))

shown : (day_opened : Bool) (day : List ℕ) (batch_opened : Bool) (batch : List ℕ) (r : Answer) (w : List ℕ)
    → r ≡ files_answer day_opened day batch_opened batch → w ≡ words_of (written_bytes r (report (words_of day) (words_of batch) []) (replicate (4 * longest_report) 0))
    → (printed r w ≡ program_text day_opened day batch_opened batch) × Room r w
unfolding program_text
shown day_opened day batch_opened batch (Err k) w e q =
    (ap (λ (a : Answer). printed a (memory_after (words_of day) (words_of batch) [] (replicate longest_report 0))) e, tt)
shown day_opened day batch_opened batch (Ok n) w e q =
    let d = words_of day in
    let b = words_of batch in
    let a : answer d b [] longest_report ≡ Ok n = the_report (files_check day_opened day batch_opened batch) (answer d b [] longest_report) n (sym e) in
    let z : w ≡ report d b [] ++ drop n (replicate longest_report 0) = q ∙ after-report d b n a in (
      ap (printed (Ok n)) (z ∙ sym (after-written d b (replicate longest_report 0) n (ap (answer d b []) (length-replicate {A = ℕ} longest_report 0) ∙ a))) ∙ ap (λ (x : Answer). printed x (memory_after d b [] (replicate longest_report 0))) e,
      rw z (omega (arith, count_read_lem d (net b) (net_after d b []) (dvp b) (drop n (replicate longest_report 0)), count_small d (net b) (dvp b))),
    )

-- words of the whole memory replace all words
replaced : (w l : List ℕ) → length w ≡ length l → put 0 w l ≡ w
replaced w l e = put_front w l ∙ ap (λ (x : List ℕ). w ++ x) (ap (λ (n : ℕ). drop n l) e ∙ drop-length l) ∙ append-nil w

-- what the words decoded from the memory print
pub decoded : (day_opened : Bool) (day : List ℕ) (batch_opened : Bool) (batch : List ℕ) (r : Answer) (m : List ℕ)
    → r ≡ files_answer day_opened day batch_opened batch → m ≡ written_bytes r (report (words_of day) (words_of batch) []) (replicate (4 * longest_report) 0) → length m ≡ 4 * longest_report
    → (l w : List ℕ) → length l ≡ longest_report → w ≡ put 0 (words_of m) l → (printed r w ≡ program_text day_opened day batch_opened batch) × Room r w
decoded day_opened day batch_opened batch r m e p n l w k q =
    shown day_opened day batch_opened batch r w e (q ∙ replaced (words_of m) l (omega (arith, words_length m, n, k)) ∙ ap words_of p)

pub long : (m l : List ℕ) → length m ≡ length l → l ≡ replicate (4 * longest_report) 0 → length m ≡ 4 * longest_report
long m l e f = e ∙ ap length f ∙ length-replicate {A = ℕ} (4 * longest_report) 0

-- text at the front of a buffer is no longer than the buffer
pub text_fits : (t l m : List ℕ) (n : ℕ) → n ≡ length t → m ≡ put 0 t l → IsPrefixLen n m
text_fits t l m n e p =
    let q : length m ≡ length t + length (drop (length t) l) = ap length (p ∙ put_front t l) ∙ length-append t (drop (length t) l) in
    let f : n ≤ length m = omega (arith, e, q) in
    (f, sym (length-take-le n m f))

-- ---- the call over words

pub room_of_lem : (d b m : List ℕ) (r : Answer) (w : List ℕ) → r ≡ answer d b [] (length m) → w ≡ memory_after d b [] m → Room r w
room_of_lem d b m (Err k) w e q = tt
room_of_lem d b m (Ok n) w e q =
    rw (q ∙ after-written d b m n (sym e)) (omega (arith, count_read_lem d (net b) (net_after d b []) (dvp b) (drop n m), count_small d (net b) (dvp b)))

pub words_shown : (d b m : List ℕ) (r : Answer) (w : List ℕ) → r ≡ answer d b [] (length m) → w ≡ memory_after d b [] m → printed r w ≡ call_text d b m
words_shown d b m r w e q = ap (λ (a : Answer). printed a w) e ∙ ap (printed (answer d b [] (length m))) q

-- ---- the bytes of a file that was not opened do not count

batch_refused : (p : Bool) (a b : Answer) (w x : List ℕ)
    → printed (answer_of (tried (plain_row (Bytes DayFile) p ∷ plain_row (Bytes BatchFile) true ∷ [])) a) w ≡ printed (answer_of (tried (plain_row (Bytes DayFile) p ∷ plain_row (Bytes BatchFile) true ∷ [])) b) x
unfolding tried
batch_refused true a b w x = refl
batch_refused false a b w x = refl

-- of a day file
pub day_unopened : (x y : List ℕ) (batch_opened : Bool) (batch : List ℕ) → program_text false x batch_opened batch ≡ program_text false y batch_opened batch
unfolding program_text files_check tried
day_unopened x y batch_opened batch = refl

-- of a batch
pub batch_unopened : (day_opened : Bool) (day x y : List ℕ) → program_text day_opened day false x ≡ program_text day_opened day false y
unfolding program_text files_check
batch_unopened day_opened day x y = batch_refused (not day_opened || row1 day) _ _ _ _
