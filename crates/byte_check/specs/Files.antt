-- A file as the check takes it: its bytes, None where it was not opened; and the verdict of a check that gives a value.
use Rattle.std.specs.Prelude.{List, [], ℕ, Option, Some, None, Result, Ok, Err}
use Rattle.model.specs.declared.Check.{Check}
use Rattle.model.specs.Outcomes.{Verdict}
use denote.Ref.{Bor}

abbrev pub file_bytes : Option (Bor (List ℕ)) → List ℕ
file_bytes (Some b) = b.now
file_bytes None = []

abbrev pub verdict_of : {A : Type 0} → Result A Check → Verdict
verdict_of (Ok x) = Ok tt
verdict_of (Err k) = Err k
