-- The order of the positions in a rewriting: in_order i is the position at place i, order_of p the place of position p.
use Rattle.std.specs.Prelude.{◌≡◌, ℕ, ◌+◌, ◌*◌, ◌/◌, ◌%◌, ◌<◌}
use Rattle.std.proofs.Common.{◌∙◌, arith}
use Rattle.model.specs.Netting.{places, position, position_count}
use Rattle.model.specs.Rewriting.{in_order}

abbrev pub order_of : ℕ → ℕ
order_of p = 4 * (p % places) + 2 * (p / places % 2) + p / (2 * places)

pub order_below : (p : ℕ) → p < position_count → order_of p < position_count
order_below p h = omega arith

pub in_order_below : (i : ℕ) → i < position_count → in_order i < position_count
in_order_below i h = omega arith

-- each undoes the other: three fields of a number, of few bits each
pub in_order_lem : (p : ℕ) → p < position_count → in_order (order_of p) ≡ p
in_order_lem p h = by (p % places) (p / places % 2) (p / (2 * places)) (omega arith) (omega arith) (omega arith) ∙ omega arith
  where
    by : (s x k : ℕ) → s < places → x < 2 → k < 2 → in_order (4 * s + 2 * x + k) ≡ position k x s
    by s x k hs hx hk =
        let a : (4 * s + 2 * x + k) % 2 ≡ k = omega arith in
        let q : (4 * s + 2 * x + k) / 2 ≡ 2 * s + x = omega arith in
        let b : (4 * s + 2 * x + k) / 2 % 2 ≡ x = rw q (omega arith) in
        let c : (4 * s + 2 * x + k) / 4 ≡ s = omega arith in
        λ i. position (a i) (b i) (c i)

pub order_of_lem : (i : ℕ) → i < position_count → order_of (in_order i) ≡ i
order_of_lem i h = by (i % 2) (i / 2 % 2) (i / 4) (omega arith) (omega arith) (omega arith) ∙ omega arith
  where
    by : (k x s : ℕ) → k < 2 → x < 2 → s < places → order_of (position k x s) ≡ 4 * s + 2 * x + k
    by k x s hk hx hs =
        let a : position k x s % places ≡ s = omega arith in
        let q : position k x s / places ≡ x + 2 * k = omega arith in
        let b : position k x s / places % 2 ≡ x = rw q (omega arith) in
        let c : position k x s / (2 * places) ≡ k = omega arith in
        λ i. 4 * a i + 2 * b i + c i
