use Rattle.std.specs.Prelude.{Err}
use Rattle.std.proofs.Common.{◌≡◌, [], ◌^◌, ◌<◌, length, ℕ, List, arith, ap, ◌∙◌}
use Rattle.model.proofs.Outcome.{memory_of}
use Rattle.model.proofs.Places.{value_small}
use Rattle.model.specs.Answers.{value_of}
use Rattle.model.specs.Calls.{answer, memory_after}
use Rattle.model.specs.Outcomes.{Answer}
use Rattle.report.specs.Calls.{answer-day}
use Rattle.account_turn.proofs.account.Goals as goal

small : (d b m : List ℕ) (r : Answer) → r ≡ answer d b [] (length m) → (r ≡ answer d b [] (length m)) × (value_of r < 2 ^ 32)
small d b m r e = (e, omega (arith, ap value_of e, value_small d b [] (length m)))

pub returns-in-Ok : goal.returns-in-Ok
returns-in-Ok c =
    let d = c.args.day.now.words.now in
    let b = c.args.batch.now in
    let m = c.args.memory.now in
    let same = c.args.day.now.gives.0 c.in-Ok.day c.in-Ok.is in
    let e = c.report_of_day.ensures.value ∙ ap (λ (w : List ℕ). answer w b [] (length m)) same in
    record { value = small d b m _ e; memory_after = c.report_of_day.ensures.memory_after ∙ ap (λ (w : List ℕ). memory_after w b [] m) same }

pub returns-in-Err : goal.returns-in-Err
returns-in-Err c =
    let d = c.args.day.now.words.now in
    let b = c.args.batch.now in
    let m = c.args.memory.now in
    let k = c.in-Err.check in
    let e = answer-day d b [] (length m) k (c.args.day.now.gives.1 k c.in-Err.is) in
    record { value = small d b m (Err k) e; memory_after = memory_of d b [] m (Err k) e }
