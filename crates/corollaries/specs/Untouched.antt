-- What a call leaves as it was: a refusal writes nothing, and no call changes the length of the report memory. All inputs.
use Rattle.std.specs.Prelude.{◌≡◌, refl, Bool, true, false, cond, List, [], ◌∷◌, ◌++◌, ℕ, ◌*◌, ◌/◌, ◌≤◌, leb, length, drop, Ok, Err}
use Rattle.std.proofs.Common.{ap, arith, leb-true, length-append, length-drop}
use Rattle.model.specs.Outcomes.{Answer}
use Rattle.model.specs.declared.Check.{Check}
use Rattle.model.specs.declared.ReportFault.TheVariants.{TooShort}
use Rattle.model.specs.Outcomes.{Verdict}
use Rattle.model.specs.Netting.{net, dvp}
use Rattle.model.specs.Calls.{verdict, answer, answer_of, room_answer, needed, report, memory_after, net_after}
use Rattle.model.specs.Bytes.{words_of, bytes_of, bytes_check, byte_answer, bytes_after, written_bytes}
use Rattle.model.specs.Rewriting.{rewriting, added}
use Rattle.model.specs.RewritingChecks.{rewrite_check, add_check}
use Rattle.model.specs.RewritingCalls.{rewrite_answer, rewrite_after, add_answer, add_after}
use Rattle.model.proofs.Length.{report-length}
use Rattle.model.proofs.Outcome.{leaves_all, leaves-length}

pub refused_writes_nothing : (d b x m : List ℕ) (k : Check) → answer d b x (length m) ≡ Err k → memory_after d b x m ≡ m
unfolding memory_after
refused_writes_nothing d b x m k e = leaves_all (answer d b x (length m)) k (report d b x) m e

-- ---- a batch rewritten, a record added

pub rewrite_refused_writes_nothing : (d b m : List ℕ) (k : Check) → rewrite_answer d b (length m) ≡ Err k → rewrite_after d b m ≡ m
unfolding rewrite_after
rewrite_refused_writes_nothing d b m k e = leaves_all (rewrite_answer d b (length m)) k (rewriting b) m e

pub rewrite_length_kept : (d b m : List ℕ) → length (rewrite_after d b m) ≡ length m
unfolding rewrite_after rewrite_answer
rewrite_length_kept d b m = leaves-length (rewrite_check d b) (length (rewriting b)) (rewriting b) m refl

pub add_refused_writes_nothing : (d b w m : List ℕ) (k : Check) → add_answer d b w (length m) ≡ Err k → add_after d b w m ≡ m
unfolding add_after
add_refused_writes_nothing d b w m k e = leaves_all (add_answer d b w (length m)) k (rewriting (added b w)) m e

pub add_length_kept : (d b w m : List ℕ) → length (add_after d b w m) ≡ length m
unfolding add_after add_answer
add_length_kept d b w m = leaves-length (add_check d b w) (length (rewriting (added b w))) (rewriting (added b w)) m refl

-- ---- the byte call

pub bytes_refused_writes_nothing : (day b m : List ℕ) (k : Check) → byte_answer day b (length m) ≡ Err k → bytes_after day b m ≡ m
unfolding bytes_after
bytes_refused_writes_nothing day b m k e = ap (λ (a : Answer). written_bytes a (report (words_of day) (words_of b) []) m) e

-- n words over the front of as many or more
over : (w m : List ℕ) (n : ℕ) → length w ≡ n → n ≤ length m → length (w ++ drop n m) ≡ length m
over w m n e h = omega (arith, length-append w (drop n m), length-drop n m)

four-each : (w : List ℕ) → length (bytes_of w) ≡ 4 * length w
unfolding bytes_of
four-each [] = refl
four-each (w ∷ l) = omega (arith, four-each l)

bytes_kept : (v c : Verdict) (n : ℕ) (w m : List ℕ) → length w ≡ n
    → length (written_bytes (answer_of v (answer_of c (room_answer n (length m / 4)))) w m) ≡ length m
bytes_kept (Ok _) (Ok _) n w m e = by (leb n (length m / 4)) refl
  where
    by : (t : Bool) → leb n (length m / 4) ≡ t → length (written_bytes (cond t (Ok n) (Err (Check.Report TooShort n))) w m) ≡ length m
    by true q = over (bytes_of w) m (4 * n) (omega (arith, four-each w)) (omega (arith, leb-true n (length m / 4) q))
    by false q = refl
bytes_kept (Ok _) (Err k) n w m e = refl
bytes_kept (Err k) c n w m e = refl

pub bytes_length_kept : (day b m : List ℕ) → length (bytes_after day b m) ≡ length m
unfolding bytes_after byte_answer answer
bytes_length_kept day b m =
    bytes_kept (bytes_check day b) (verdict (words_of day) (words_of b) []) (needed (words_of day) (words_of b)) (report (words_of day) (words_of b) []) m
    (report-length (words_of day) (net (words_of b)) (net_after (words_of day) (words_of b) []) (dvp (words_of b)))
