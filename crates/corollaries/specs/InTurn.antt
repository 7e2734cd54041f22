-- What every call for many accounts does (U1), as a host reads it: each account's two numbers, start and words; what remains.
use Rattle.std.specs.Prelude.{◌≡◌, List, [], length, take, drop, Ok, Err}
use Rattle.std.proofs.Math.Path.{refl}
use Rattle.std.proofs.Common.{sym, ap, ◌∙◌, arith, ne_eqb, length-drop}
use Prim.Native.Nat.{ℕ, zero, suc, ◌+◌, ◌-◌, ◌*◌, ◌≤◌, ◌<◌}
use Rattle.model.specs.Outcomes.{Answer}
use Rattle.model.specs.declared.Check.{Check}
use Rattle.model.specs.Outcomes.{Verdict}
use Rattle.model.specs.Answers.{number_of}
use Rattle.model.specs.Calls.{answer_of, report}
use Rattle.model.specs.ManyAccounts.{batch_of, result_numbers, accounts_check, words_in, pair_of, report_start, answer_for, memory_to, left_by, reports_answer, results_after, reports_after}
use Rattle.model.specs.OtherAccounts.{length_of, pair_at, start_at, report_at, InTurn}
use Rattle.model.proofs.ManyAccounts.{AccountsRows, accounts_checked, results_long, memory-long, results_past, memory_past}
use Rattle.model.proofs.Outcome.{refused_not}
use Rattle.model.proofs.Places.{reports_value_small}
use Rattle.corollaries.specs.RefusalNumbers.{numbered}
use Rattle.corollaries.specs.CallsInTurn.{wrote, words_for, words_read, memory-behind, refused_start, pair_read, results_behind}

-- ---- the outcome as a host reads it

-- the words that an answer's two numbers tell of
length_pair : (a : Answer) → length_of (pair_of a) ≡ words_in a
length_pair (Ok n) = refl
length_pair (Err k) = rw (ne_eqb (number_of k) 0 (λ e. absurd (omega (arith, e, (numbered k).0))))

module _ (d bs ns rs m : List ℕ) (e : accounts_check bs ns (length rs) ≡ Ok tt) where
  abbrev b : ℕ → List ℕ
  b = batch_of bs ns

  abbrev ok : AccountsRows bs ns (length rs)
  ok = accounts_checked bs ns (length rs) e

  pub pair_is : (k : ℕ) → k < length ns → pair_at d bs ns rs m k ≡ pair_of (answer_for d b (length m) k)
  pair_is k h =
      ap (λ (l : List ℕ). take result_numbers (drop (result_numbers * k) l)) (results_past d bs ns rs (length m) e)
      ∙ pair_read d b (length m) rs k (length ns) h ok.list

  length_is : (k : ℕ) → k < length ns → length_of (pair_at d bs ns rs m k) ≡ words_in (answer_for d b (length m) k)
  length_is k h = ap length_of (pair_is k h) ∙ length_pair (answer_for d b (length m) k)

  start_is : (k : ℕ) → k ≤ length ns → start_at d bs ns rs m k ≡ report_start d b (length m) k
  unfolding start_at report_start
  start_is zero h = refl
  start_is (suc k) h = λ i. start_is k (omega arith) i + length_is k h i

  pub report_is : (k : ℕ) → k < length ns → report_at d bs ns rs m k ≡ words_for d b m k
  report_is k h =
      (λ i. take (length_is k h i) (drop (start_is k (omega arith) i) (memory_past d bs ns (length rs) m e i)))
      ∙ words_read d b m k (length ns) h

-- ---- every call

refused_leaves : (v : Verdict) (done l done' l' : List ℕ) (n : ℕ) (c : Check) → answer_of v (Ok n) ≡ Err c → (left_by v done l ≡ l) × (left_by v done' l' ≡ l')
refused_leaves (Ok _) done l done' l' n c e = refused_not c n (sym e)
refused_leaves (Err k) done l done' l' n c e = (refl, refl)

nothing_written : (d bs ns rs m : List ℕ) (c : Check) → reports_answer d bs ns (length rs) (length m) ≡ Err c
    → (results_after d bs ns rs (length m) ≡ rs) × (reports_after d bs ns (length rs) m ≡ m)
unfolding reports_answer results_after reports_after
nothing_written d bs ns rs m c e = refused_leaves (accounts_check bs ns (length rs)) _ rs _ m _ c e

answered : (v : Verdict) (s n : ℕ) → answer_of v (Ok s) ≡ Ok n → (v ≡ Ok tt) × (s ≡ n)
answered (Ok _) s n e = (refl, cc)
answered (Err k) s n e = refused_not k n e

words_behind : (d bs ns rs m : List ℕ) (n : ℕ) → reports_answer d bs ns (length rs) (length m) ≡ Ok n → drop n (reports_after d bs ns (length rs) m) ≡ drop n m
unfolding reports_answer
words_behind d bs ns rs m n e =
    let r = answered (accounts_check bs ns (length rs)) (report_start d (batch_of bs ns) (length m) (length ns)) n e in
    (λ i. drop (sym r.1 i) (memory_past d bs ns (length rs) m r.0 i)) ∙ memory-behind d (batch_of bs ns) m (length ns) ∙ ap (λ (x : ℕ). drop x m) r.1

-- a list that no account changes in length
left-long : (v : Verdict) (done l : List ℕ) → (v ≡ Ok tt → length done ≡ length l) → length (left_by v done l) ≡ length l
left-long (Ok _) done l h = h refl
left-long (Err k) done l h = refl

long_results_lem : (d bs ns rs : List ℕ) (room : ℕ) → length (results_after d bs ns rs room) ≡ length rs
unfolding results_after
long_results_lem d bs ns rs room =
    left-long (accounts_check bs ns (length rs)) _ rs
    (λ e. results_long d (batch_of bs ns) room rs (length ns) (accounts_checked bs ns (length rs) e).list)

long-memory : (d bs ns m : List ℕ) (entries : ℕ) → length (reports_after d bs ns entries m) ≡ length m
unfolding reports_after
long-memory d bs ns m entries = left-long (accounts_check bs ns entries) _ m (λ e. memory-long d (batch_of bs ns) m (length ns))

pub in_turn : InTurn
in_turn =
    record {
      rests = λ d bs ns m k. length-drop (report_start d (batch_of bs ns) (length m) k) (memory_to d (batch_of bs ns) m k) ∙ ap (λ (n : ℕ). n - report_start d (batch_of bs ns) (length m) k) (memory-long d (batch_of bs ns) m k);
      pairs = λ d bs ns rs m k h e. pair_is d bs ns rs m e k h;
      starts = λ d bs ns rs m k h e. start_is d bs ns rs m e k h;
      reports = λ d bs ns rs m k n h e q. report_is d bs ns rs m e k h ∙ ap (λ (a : Answer). wrote a (report d (batch_of bs ns k) [])) q;
      refused = λ d bs ns m k c e. refused_start d (batch_of bs ns) (length m) k c e;
      entries = λ d bs ns rs m e. ap (drop (result_numbers * length ns)) (results_past d bs ns rs (length m) e) ∙ results_behind d (batch_of bs ns) (length m) rs (length ns) (accounts_checked bs ns (length rs) e).list;
      behind = words_behind;
      long_results = long_results_lem;
      long_memory = long-memory;
      small = reports_value_small;
      nothing = nothing_written;
    }
