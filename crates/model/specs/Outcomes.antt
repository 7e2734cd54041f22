-- What a run of checks and what a call say.
use Rattle.std.specs.Prelude.{ℕ, Result, ⊤}
use Rattle.model.specs.declared.Check.{Check}

-- all checks hold, or the first that does not
abbrev pub Verdict : Type 0
Verdict = Result ⊤ Check

-- the words written, or the check that refused
abbrev pub Answer : Type 0
Answer = Result ℕ Check
