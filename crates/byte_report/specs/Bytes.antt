-- The byte call stage by stage: rows 1 and 2, then the call over words.
use Rattle.std.specs.Prelude.{◌≡◌, List, [], ℕ, ◌/◌, length, Ok, Err}
use Rattle.std.proofs.Common.{ap}
use Rattle.model.specs.Outcomes.{Answer}
use Rattle.model.specs.declared.Check.{Check}
use Rattle.model.specs.Calls.{answer, report}
use Rattle.model.specs.Bytes.{words_of, bytes_check, byte_answer, bytes_after, written_bytes}

module _ (day batch : List ℕ) (room : ℕ) where
  pub bytes_refused : (k : Check) → bytes_check day batch ≡ Err k → Err k ≡ byte_answer day batch room
  unfolding byte_answer
  bytes_refused k e = rw e

  pub words_answer : bytes_check day batch ≡ Ok tt → answer (words_of day) (words_of batch) [] (room / 4) ≡ byte_answer day batch room
  unfolding byte_answer
  words_answer e = rw e

pub bytes_of : (day batch m : List ℕ) (r : Answer) → r ≡ byte_answer day batch (length m) → written_bytes r (report (words_of day) (words_of batch) []) m ≡ bytes_after day batch m
unfolding bytes_after
bytes_of day batch m r e = ap (λ (a : Answer). written_bytes a (report (words_of day) (words_of batch) []) m) e
