-- What a call answers and leaves in a lent memory m, for any rows v that it tries and any words w, n of them, that it has to write.
use Rattle.std.specs.Prelude.{Ok, Err}
use mathlib.Core.Path.{◌≡◌, refl, ap}
use mathlib.Core.Bool.{Bool, true, false, cond}
use mathlib.Core.List.{List, ◌++◌}
use Prim.Native.Nat.{ℕ, ◌≤◌}
use native.Mathlib.Omega.{arith}
use borrow.Author.Tests.{le-leb, leb-true}
use lib.Dec.{leb}
use lib.ListN.{length, drop, length-append, length-drop}
use Rattle.model.specs.Outcomes.{Answer}
use Rattle.model.specs.declared.Check.{Check}
use Rattle.model.specs.declared.ReportFault.TheVariants.{TooShort}
use Rattle.model.specs.Outcomes.{Verdict}
use Rattle.model.specs.Netting.{net, dvp}
use Rattle.model.specs.Calls.{verdict, Accepted, net_after, report, needed, outcome, answer, written, memory_after}
use Rattle.model.specs.Report.{words_needed, longest_report}
use Rattle.model.proofs.Read.{count_small}
use Rattle.model.proofs.Length.{report-length}

-- all rows pass and there is room
pub outcome-passed : (v : Verdict) (n room : ℕ) → v ≡ Ok tt → n ≤ room → outcome v n room ≡ Ok n
outcome-passed v n room e h = rw (e, le-leb n room h)

-- what holds of n words written, where the rows pass and there is room, and of every refusal
pub outcome_by : (v : Verdict) (n room : ℕ) (P : Answer → Type 0) → (v ≡ Ok tt → n ≤ room → P (Ok n)) → ((c : Check) → P (Err c)) → P (outcome v n room)
outcome_by (Ok _) n room P f g = by (leb n room) refl
  where
    by : (t : Bool) → leb n room ≡ t → P (cond t (Ok n) (Err (Check.Report TooShort n)))
    by true q = f refl (leb-true n room q)
    by false q = g (Check.Report TooShort n)
outcome_by (Err c) n room P f g = g c

pub refused_not : {X : Type 0} (k : Check) (n : ℕ) → Err k ≡ Ok n → X
refused_not k n e = let z : ◌≡◌ {A = ℕ} 0 1 = cc in absurd (omega arith)

-- and back: an answer that is no refusal has the length of what is written, and room for it
pub outcome-report : (v : Verdict) (n room k : ℕ) → outcome v n room ≡ Ok k → (v ≡ Ok tt) × (k ≡ n) × (n ≤ room)
outcome-report v n room k =
    outcome_by v n room (λ a. a ≡ Ok k → (v ≡ Ok tt) × (k ≡ n) × (n ≤ room))
    (λ e h q. let s : n ≡ k = cc in (e, omega (arith, s), h)) (λ c q. refused_not c k q)

module _ (v : Verdict) (n : ℕ) (w m : List ℕ) where
  pub leaves_words : v ≡ Ok tt → n ≤ length m → written (outcome v n (length m)) w m ≡ w ++ drop n m
  leaves_words e h = ap (λ (a : Answer). written a w m) (outcome-passed v n (length m) e h)

  pub leaves-length : length w ≡ n → length (written (outcome v n (length m)) w m) ≡ length m
  leaves-length e =
      outcome_by v n (length m) (λ a. length (written a w m) ≡ length m)
      (λ p h. omega (arith, e, h, length-append w (drop n m), length-drop n m)) (λ c. refl)

-- a refusal leaves the memory as it was, whatever could have been written
pub leaves_all : (a : Answer) (k : Check) (w m : List ℕ) → a ≡ Err k → written a w m ≡ m
leaves_all a k w m e = ap (λ (x : Answer). written x w m) e

-- ---- the call over words

-- no report is longer than the longest
pub needed_most : (d b : List ℕ) → needed d b ≤ longest_report
unfolding words_needed
needed_most d b = omega (arith, count_small d (net b) (dvp b))

pub answer_by : (d b x : List ℕ) (room : ℕ) (P : Answer → Type 0) → (needed d b ≤ room → P (Ok (needed d b))) → ((c : Check) → P (Err c)) → P (answer d b x room)
unfolding answer
answer_by d b x room P f g = outcome_by (verdict d b x) (needed d b) room P (λ e h. f h) g

-- an answer that is a report: the account is accepted, and the memory has room for so many words
pub answer-report : (d b x : List ℕ) (room k : ℕ) → answer d b x room ≡ Ok k → Accepted d b x × (k ≡ needed d b) × (needed d b ≤ room)
unfolding answer
answer-report d b x room k e = outcome-report (verdict d b x) (needed d b) room k e

-- the memory after a call that is accepted, with room
pub memory_is : (d b x m : List ℕ) → Accepted d b x → needed d b ≤ length m → memory_after d b x m ≡ report d b x ++ drop (needed d b) m
unfolding memory_after answer
memory_is d b x m a h = leaves_words (verdict d b x) (needed d b) (report d b x) m a h

-- .. after an answer
pub memory_of : (d b x m : List ℕ) (r : Answer) → r ≡ answer d b x (length m) → written r (report d b x) m ≡ memory_after d b x m
unfolding memory_after
memory_of d b x m r e = ap (λ (a : Answer). written a (report d b x) m) e

-- no call changes the memory's length
pub length_kept : (d b x m : List ℕ) → length (memory_after d b x m) ≡ length m
unfolding memory_after answer
length_kept d b x m = leaves-length (verdict d b x) (needed d b) (report d b x) m (report-length d (net b) (net_after d b x) (dvp b))
