-- The closing price of a series as an integer: x is what its view gave, z what `From` made of it.
use Rattle.std.specs.Prelude.{◌≡◌, List, ℕ, ℤ, pos}
use Rattle.std.proofs.Common.{ap, ◌∙◌}
use Rattle.model.specs.DayFile.{closing}

pub closing_price : {z : ℤ} {x : ℕ} {d e : List ℕ} {s t : ℕ} → z ≡ pos x → x ≡ closing d s → (d ≡ e) × (s ≡ t) → z ≡ pos (closing e t)
closing_price p q v = p ∙ ap pos (q ∙ (λ i. closing (v.0 i) (v.1 i)))
