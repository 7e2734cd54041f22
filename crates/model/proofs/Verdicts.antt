-- Rows tried one after the other, as the returns of a check ask it: `search (verdicts, needs)`. r is what a call returned, u what is returned.
use Rattle.std.specs.Prelude.{Option, Some, None, Ok, Err}
use mathlib.Core.Path.{◌≡◌, refl, sym, ◌∙◌}
use mathlib.Core.Bool.{Bool, true, false, not}
use mathlib.Core.List.{List, [], ◌∷◌, ◌++◌}
use Prim.Native.Nat.{ℕ}
use native.Mathlib.Omega.{arith}
use borrow.Author.Tests.{eqb-true, not-false}
use lib.Dec.{eqb}
use Rattle.numbers.specs.Scan.{first_bad}
use Rattle.model.specs.declared.Check.{Check}
use Rattle.model.specs.Outcomes.{Verdict}
use Rattle.model.specs.Rows.{tried, plain_row, record_row}
use Rattle.model.specs.Outcomes.{Answer}
use Rattle.model.specs.Calls.{answer_of}

-- ---- chains

-- what holds of each of some verdicts
abbrev pub Each : (Verdict → Type 0) → List Verdict → Type 0
Each P [] = Unit
Each P (v ∷ l) = P v × Each P l

infixr 20 ◌then◌
pub ◌then◌ : {A B : Type 0} → A → B → A × B
a then b = (a, b)

pub failed_not : {X : Type 0} (k : Check) → ◌≡◌ {A = Verdict} (Err k) (Ok tt) → X
failed_not k e = let z : ◌≡◌ {A = ℕ} 0 1 = cc in absurd (omega arith)

-- all have passed where the chain has, and back
pub tried-passed : (l : List Verdict) → tried l ≡ Ok tt → Each (λ v. v ≡ Ok tt) l
unfolding tried
tried-passed [] e = tt
tried-passed (Ok _ ∷ l) e = (refl, tried-passed l e)
tried-passed (Err k ∷ l) e = failed_not k e

pub tried_pass : (l : List Verdict) → Each (λ v. v ≡ Ok tt) l → tried l ≡ Ok tt
unfolding tried
tried_pass [] e = refl
tried_pass (v ∷ l) e = rw e.0 (tried_pass l e.1)

-- what holds of a pass and of each verdict holds of the chain
pub tried-each : (P : Verdict → Type 0) → P (Ok tt) → (l : List Verdict) → Each P l → P (tried l)
unfolding tried
tried-each P p [] h = p
tried-each P p (Ok _ ∷ l) h = tried-each P p l h.1
tried-each P p (Err k ∷ l) h = h.0

-- the last stage decides
pub last_stage : (v u : Verdict) → u ≡ v → u ≡ tried (v ∷ [])
unfolding tried
last_stage (Ok _) u e = e
last_stage (Err k) u e = e

-- rows behind others, and rows that are a stage of their own
pub tried_behind : (l m : List Verdict) → tried (l ++ m) ≡ tried (tried l ∷ m)
unfolding tried
tried_behind [] m = refl
tried_behind (Ok _ ∷ l) m = tried_behind l m
tried_behind (Err k ∷ l) m = refl

pub tried_staged : (l m : List Verdict) → tried (l ++ (tried m ∷ [])) ≡ tried (l ++ m)
unfolding tried
tried_staged [] m = sym (last_stage (tried m) (tried m) refl)
tried_staged (Ok _ ∷ l) m = tried_staged l m
tried_staged (Err k ∷ l) m = refl

-- ---- answers, a stage at a time

pub answer_failed : (v r : Verdict) (l : List Verdict) (k : Check) (a : Answer) → r ≡ v → r ≡ Err k → Err k ≡ answer_of (tried (v ∷ l)) a
unfolding tried
answer_failed v r l k a p q = rw (← p, q)

pub answer-passed : (v r : Verdict) (l : List Verdict) (a u : Answer) → r ≡ v → r ≡ Ok tt → u ≡ answer_of (tried l) a → u ≡ answer_of (tried (v ∷ l)) a
unfolding tried
answer-passed v r l a u p q e = rw (← p, q) e

-- the last stage decides
pub answer_last : (v : Verdict) (a : Answer) → answer_of v a ≡ answer_of (tried (v ∷ [])) a
unfolding tried
answer_last (Ok _) a = refl
answer_last (Err k) a = refl

-- ---- verdicts, a row at a time

-- a test of two numbers that should be equal, passed
pub equal_of : (a b : ℕ) (r : Bool) → r ≡ not (eqb a b) → r ≡ false → a ≡ b
equal_of a b r e q = eqb-true a b (not-false (eqb a b) (sym e ∙ q))

-- no row is left
pub none_left : Ok tt ≡ tried []
unfolding tried
none_left = refl

-- a stage of several rows
pub stage_failed : (v r : Verdict) (l : List Verdict) (k : Check) → r ≡ v → r ≡ Err k → Err k ≡ tried (v ∷ l)
unfolding tried
stage_failed v r l k a b = rw (← a, b)

pub stage_passed : (v r u : Verdict) (l : List Verdict) → r ≡ v → r ≡ Ok tt → u ≡ tried l → u ≡ tried (v ∷ l)
unfolding tried
stage_passed v r u l a b e = rw (← a, b) e

-- a row without records
pub plain_failed : (k : ℕ → Check) (t r : Bool) (u : Verdict) (l : List Verdict) → r ≡ t → r ≡ true → u ≡ Err (k 0) → u ≡ tried (plain_row k t ∷ l)
unfolding tried
plain_failed k t r u l a b q = rw (← a, b) q

pub plain_passed : (k : ℕ → Check) (t r : Bool) (u : Verdict) (l : List Verdict) → r ≡ t → r ≡ false → u ≡ tried l → u ≡ tried (plain_row k t ∷ l)
unfolding tried
plain_passed k t r u l a b e = rw (← a, b) e

-- a row over n records, of which the code counts m
pub row_failed : (k : ℕ → Check) (t : ℕ → Bool) (r : Option ℕ) (m n i : ℕ) (u : Verdict) (l : List Verdict) → r ≡ first_bad t m → m ≡ n → r ≡ Some i → u ≡ Err (k i) → u ≡ tried (record_row k t n ∷ l)
unfolding tried
row_failed k t r m n i u l a e b q = rw (← e, ← a, b) q

pub row_passed : (k : ℕ → Check) (t : ℕ → Bool) (r : Option ℕ) (m n : ℕ) (u : Verdict) (l : List Verdict) → r ≡ first_bad t m → m ≡ n → r ≡ None → u ≡ tried l → u ≡ tried (record_row k t n ∷ l)
unfolding tried
row_passed k t r m n u l a e b q = rw (← e, ← a, b) q

-- a row by itself
pub one_failed : (k : ℕ → Check) (t : ℕ → Bool) (r : Option ℕ) (m n i : ℕ) (u : Verdict) → r ≡ first_bad t m → m ≡ n → r ≡ Some i → u ≡ Err (k i) → u ≡ record_row k t n
one_failed k t r m n i u a e b q = rw (← e, ← a, b) q

pub one_passed : (k : ℕ → Check) (t : ℕ → Bool) (r : Option ℕ) (m n : ℕ) → r ≡ first_bad t m → m ≡ n → r ≡ None → Ok tt ≡ record_row k t n
one_passed k t r m n a e b = rw (← e, ← a, b)

pub ruleset verdicts = (none_left, last_stage, stage_failed, stage_passed, plain_failed, plain_passed, row_failed, row_passed, one_failed, one_passed)
