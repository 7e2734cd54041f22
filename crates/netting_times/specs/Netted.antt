-- When the call nets: two tables of 1,024 entries, and a batch that passes its checks.
use Rattle.std.specs.Prelude.{◌≡◌, refl, Bool, true, false, ◌&&◌, List, ℕ, eqb, Ok, Err}
use Rattle.std.proofs.Common.{sym, true≢false, eqb-true}
use Rattle.model.specs.Outcomes.{Verdict}
use Rattle.model.specs.BatchChecks.{batch_check}
use Rattle.model.proofs.Accepted.{batch_checked}
use Rattle.numbers.specs.Tests.{and_left, and_right}
use Rattle.netting.specs.Limits.{Limited, limited}
use Rattle.model.specs.Netting.{position_count}

abbrev pub passed : Verdict → Bool
passed (Ok _) = true
passed (Err k) = false

-- of tables of n and m entries
abbrev pub netted : List ℕ → List ℕ → ℕ → ℕ → Bool
netted d b n m = passed (batch_check d b) && (eqb n position_count && eqb m position_count)

has_passed : (v : Verdict) → passed v ≡ true → v ≡ Ok tt
has_passed (Ok _) e = refl
has_passed (Err k) e = absurd (true≢false (sym e))

-- what netting asks
pub can_net : (d b : List ℕ) (n m : ℕ) → netted d b n m ≡ true → Limited b × ((n ≡ position_count) × (m ≡ position_count))
can_net d b n m e =
    let v = batch_check d b in
    let l = and_right (passed v) (eqb n position_count && eqb m position_count) e in (
      limited d b (batch_checked d b (has_passed v (and_left (passed v) (eqb n position_count && eqb m position_count) e))),
      (eqb-true n position_count (and_left (eqb n position_count) (eqb m position_count) l), eqb-true m position_count (and_right (eqb n position_count) (eqb m position_count) l)),
    )
