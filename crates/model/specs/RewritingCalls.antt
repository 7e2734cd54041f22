-- U7: what rewriting a batch and adding a record w to it answer and leave, for every day file d, batch b and output memory m, of so many words.
use Rattle.std.specs.Prelude.{List, ℕ, length}
use Rattle.model.specs.Outcomes.{Answer}
use Rattle.model.specs.Calls.{outcome, written}
use Rattle.model.specs.Rewriting.{rewriting, added}
use Rattle.model.specs.RewritingChecks.{rewrite_check, add_check}

-- row 40 last, or the length
unfoldable pub rewrite_answer : List ℕ → List ℕ → ℕ → Answer
rewrite_answer d b room = outcome (rewrite_check d b) (length (rewriting b)) room

unfoldable pub rewrite_after : List ℕ → List ℕ → List ℕ → List ℕ
rewrite_after d b m = written (rewrite_answer d b (length m)) (rewriting b) m

-- "the rewriting of the batch with that record as its last"
unfoldable pub add_answer : List ℕ → List ℕ → List ℕ → ℕ → Answer
add_answer d b w room = outcome (add_check d b w) (length (rewriting (added b w))) room

unfoldable pub add_after : List ℕ → List ℕ → List ℕ → List ℕ → List ℕ
add_after d b w m = written (add_answer d b w (length m)) (rewriting (added b w)) m
