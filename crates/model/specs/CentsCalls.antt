-- U11: what the conversions to cents and from cents answer and leave, for every batch b and output memory m, of so many words.
use Rattle.std.specs.Prelude.{List, ℕ, length}
use Rattle.model.specs.Outcomes.{Answer}
use Rattle.model.specs.Calls.{outcome, written}
use Rattle.model.specs.Cents.{to_cents, from_cents}
use Rattle.model.specs.CentsChecks.{to_cents_check, from_cents_check}

-- row 40 last, or the length
unfoldable pub to_cents_answer : List ℕ → ℕ → Answer
to_cents_answer b room = outcome (to_cents_check b) (length (to_cents b)) room

unfoldable pub to_cents_after : List ℕ → List ℕ → List ℕ
to_cents_after b m = written (to_cents_answer b (length m)) (to_cents b) m

unfoldable pub from_cents_answer : List ℕ → ℕ → Answer
from_cents_answer b room = outcome (from_cents_check b) (length (from_cents b)) room

unfoldable pub from_cents_after : List ℕ → List ℕ → List ℕ
from_cents_after b m = written (from_cents_answer b (length m)) (from_cents b) m
