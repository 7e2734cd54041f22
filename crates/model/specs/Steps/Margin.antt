-- Step 8: the six amounts of a group's line.
use Rattle.std.specs.Prelude.{List, [], ◌∷◌, ℕ, ℤ, pos, neg_ℤ, ◌+ℤ◌}
use Rattle.numbers.specs.Extremes.{max_z}
use Rattle.model.specs.Steps.Classes.{over_classes}
use Rattle.model.specs.Steps.Spread.{spread}
use Rattle.model.specs.Steps.Mtm.{mtm}
use Rattle.model.specs.Steps.Premium.{premium}
use Rattle.model.specs.Steps.Minimum.{requirement}

-- margin: the group sum if positive, else 0
abbrev pub margin_of : ℤ → ℤ
margin_of z = max_z z (pos 0)

-- residual credit: the negative of the sum if that is negative, else 0
abbrev pub residual_of : ℤ → ℤ
residual_of z = max_z (neg_ℤ z) (pos 0)

module _ (d : List ℕ) (net : ℕ → ℤ) (book : ℕ) where
  -- spread and premium of a group: the sums over its classes
  unfoldable pub group_spread : ℕ → ℤ
  group_spread g = over_classes d g (spread d net book)

  unfoldable pub group_premium : ℕ → ℤ
  group_premium g = over_classes d g (premium d net book)

module _ (d : List ℕ) (net dvp : ℕ → ℤ) (book : ℕ) where
  -- MTM of a group: the sum over its classes
  unfoldable pub group_mtm : ℕ → ℤ
  group_mtm g = over_classes d g (mtm d net dvp book)

  -- spread + MTM + premium + additional requirement
  unfoldable pub group_sum : ℕ → ℤ
  group_sum g = group_spread d net book g +ℤ group_mtm g +ℤ group_premium d net book g +ℤ requirement d net book g

  unfoldable pub margin : ℕ → ℤ
  margin g = margin_of (group_sum g)

  unfoldable pub residual : ℕ → ℤ
  residual g = residual_of (group_sum g)

  -- spread, MTM, premium, additional requirement, margin, residual credit
  unfoldable pub line_amounts : ℕ → List ℤ
  line_amounts g =
      group_spread d net book g ∷ group_mtm g ∷ group_premium d net book g ∷ requirement d net book g ∷ margin g ∷ residual g ∷ []
