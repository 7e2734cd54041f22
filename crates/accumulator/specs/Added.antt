-- What a position adds to ten running amounts.
use Rattle.std.specs.Prelude.{◌≡◌, Bool, true, not, List, ℕ, zero, suc, ◌≤◌, ◌<◌, ltb, ℤ, pos, negsuc, nat_abs, ◌+ℤ◌, ◌-ℤ◌, ◌*ℤ◌, length, get_or}
use Rattle.std.proofs.Common.{sym, ap, ◌∙◌, arith, ltb-false}
use Rattle.std.proofs.lemmas.Bool.{not-true}
use Rattle.std.proofs.Math.IntN.{zero-*ℤ, +ℤ_idr}
use Rattle.numbers.specs.Abs.{nat_abs-+, nat_abs-pos-sub, nat_abs-*_le}
use Rattle.numbers.specs.Filling.{tabulate-get_or}
use Rattle.numbers.specs.Table.{tabulate, get_or-tabulate, tabulate_ext}
use Rattle.model.specs.Limits.{worth_limit, running_limit, contracts_limit, price_limit, point_count}

-- net × multiplier × change of the price
abbrev pub change_amount : ℤ → ℕ → ℕ → ℤ
change_amount z base price = z *ℤ (pos price -ℤ pos base)

-- an amount at point k, and what the position adds there
abbrev pub added_at : List ℤ → ℤ → ℕ → List ℕ → ℕ → ℤ
added_at at z base prices k = get_or at k (pos 0) +ℤ change_amount z base (get_or prices k 0)

abbrev pub added : List ℤ → ℤ → ℕ → List ℕ → List ℤ
added at z base prices = tabulate point_count (added_at at z base prices)

pub change-size : (z : ℤ) (base price : ℕ) → nat_abs z ≤ contracts_limit → base ≤ price_limit → price ≤ price_limit
    → nat_abs (change_amount z base price) ≤ worth_limit
change-size z base price h p q = nat_abs-*_le z (pos price -ℤ pos base) contracts_limit price_limit h (nat_abs-pos-sub price base price_limit q p)

-- a position of no contracts adds none
pub added_none : (z : ℤ) (at : List ℤ) (base : ℕ) (prices : List ℕ) → nat_abs z ≤ 0 → length at ≡ point_count → at ≡ added at z base prices
added_none (pos zero) at base prices h l =
    tabulate-get_or at point_count (pos 0) l
    ∙ tabulate_ext point_count _ (added_at at (pos 0) base prices)
    (λ k q. sym (ap (λ (y : ℤ). get_or at k (pos 0) +ℤ y) (zero-*ℤ (pos (get_or prices k 0) -ℤ pos base)) ∙ +ℤ_idr (get_or at k (pos 0))))
added_none (pos (suc n)) at base prices h l = absurd (omega arith)
added_none (negsuc n) at base prices h l = absurd (omega arith)

-- a test says that there is no net
pub is_none : (t : Bool) (z y : ℤ) → z ≡ y → t ≡ ltb 0 (nat_abs z) → not t ≡ true → nat_abs y ≤ 0
is_none t z y e q h = ltb-false 0 (nat_abs y) (ap (λ (x : ℤ). ltb 0 (nat_abs x)) (sym e) ∙ sym q ∙ not-true t h)

-- the amounts after one position
pub added-size : (at : List ℤ) (z : ℤ) (base : ℕ) (prices : List ℕ) → nat_abs z ≤ contracts_limit → base ≤ price_limit
    → ((k : ℕ) → k < point_count → get_or prices k 0 ≤ price_limit) → ((k : ℕ) → k < point_count → nat_abs (get_or at k (pos 0)) ≤ worth_limit)
    → (k : ℕ) → k < point_count → nat_abs (get_or (added at z base prices) k (pos 0)) ≤ running_limit
added-size at z base prices h p q a k l =
    rw (get_or-tabulate point_count (added_at at z base prices) k (pos 0) l)
    (omega (
      arith,
      nat_abs-+ (get_or at k (pos 0)) (change_amount z base (get_or prices k 0)),
      a k l,
      change-size z base (get_or prices k 0) h p (q k l),
    ))
