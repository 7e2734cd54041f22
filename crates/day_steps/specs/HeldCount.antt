-- A step changes one position, so that the count of positions held moves by that position alone.
use Rattle.std.specs.Prelude.{◌≡◌, ◌≢◌, ◌||◌, cond, List, ℕ, ◌+◌, ◌<◌, ℤ, length}
use Rattle.std.proofs.Math.Path.{sym, ap}
use Rattle.std.proofs.Common.{◌∙◌, arith}
use Rattle.numbers.specs.Budget.{sum_n_change}
use Rattle.model.specs.Netting.{position_count}
use Rattle.model.specs.Steps.Positions.{not_zero, held}
use Rattle.model.specs.Rewriting.{in_order, held_records}
use Rattle.model.proofs.HeldRecords.{held_at, held_length}
use Rattle.model.proofs.Nets.{key_of}
use Rattle.corollaries.specs.PositionOrder.{order_of, order_below, in_order_lem, order_of_lem}
use Rattle.day_steps.specs.Step.{with_net, with_dvp, other_net, other_dvp}

-- 1 for a position held, else 0
abbrev pub held_one : (ℕ → ℤ) → (ℕ → ℤ) → ℕ → ℕ
held_one n v p = cond (held n v p) 1 0

pub count_moves : (n v : ℕ → ℤ) (w : List ℕ)
    → length (held_records (with_net n w) (with_dvp v w)) + held_one n v (key_of w) ≡ length (held_records n v) + held_one (with_net n w) (with_dvp v w) (key_of w)
count_moves n v w =
    let p : ℕ = key_of w in
    let below : p < position_count = omega arith in
    let here = in_order_lem p below in
    let one : (ℕ → ℤ) → (ℕ → ℤ) → ℕ → ℕ = λ n v i. cond (held_at n v i) 1 0 in
    omega (
      arith,
      held_length n v,
      held_length (with_net n w) (with_dvp v w),
      ap (held_one n v) here,
      ap (held_one (with_net n w) (with_dvp v w)) here,
      sum_n_change position_count (order_of p) (one n v) (one (with_net n w) (with_dvp v w)) (order_below p below)
          (λ i l o.
          let e : p ≢ in_order i = λ z. o (sym (order_of_lem i l) ∙ ap order_of (sym z)) in
          λ j. cond (not_zero (sym (other_net n v w (in_order i) e) j) || not_zero (sym (other_dvp n v w (in_order i) e) j)) 1 0),
    )
