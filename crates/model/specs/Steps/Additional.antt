-- Step 6: additional margin of a group.
use Rattle.std.specs.Prelude.{cond, List, ℕ, ℤ, pos, ◌*ℤ◌}
use Rattle.std.specs.Int.Signed.{lt_z, quot_z}
use Rattle.numbers.specs.Extremes.{largest}
use Rattle.model.specs.DayFile.{offset}
use Rattle.model.specs.Steps.Classes.{over_classes}
use Rattle.model.specs.Steps.Points.{class_point}
use Rattle.model.specs.Limits.{whole_offset, point_count}

-- a credit is multiplied by the offset o and divided by the whole, rounded toward zero; a debit remains whole
unfoldable pub after_offset : ℕ → ℤ → ℤ
after_offset o z = cond (lt_z z (pos 0)) (quot_z (z *ℤ pos o) (pos whole_offset)) z

module _ (d : List ℕ) (net : ℕ → ℤ) (book : ℕ) where
  -- the classes of a group added point by point, each after its own offset
  unfoldable pub group_point : ℕ → ℕ → ℤ
  group_point g k = over_classes d g (λ c. after_offset (offset d c) (class_point d net book c k))

  -- the largest of the ten sums, or 0 if none is positive
  unfoldable pub additional : ℕ → ℤ
  additional g = largest point_count (group_point g)
