-- The sums within each type as one pass over a class's range has them, and the minimum over the six types.
use Rattle.std.specs.Prelude.{◌≡◌, refl, Bool, cond, List, ℕ, ◌+◌, ◌≤◌, ◌<◌, ℤ, pos, nat_abs, ◌+ℤ◌, ◌*ℤ◌, set, replicate}
use Rattle.std.proofs.Common.{sym, ◌∙◌, le_refl, arith, eq-eqb, ne_eqb}
use Rattle.std.proofs.Math.Path.{ap}
use Rattle.std.proofs.Math.Dec.{eqb}
use Rattle.std.proofs.Math.IntN.{+ℤ_idr}
use Rattle.numbers.specs.Extremes.{abs_z}
use Rattle.numbers.specs.Sums.{sum_to, sum_where, sum_to-none, sum_to_more}
use Rattle.numbers.specs.Table.{tabulate, tabulate_ext, tabulate-set, replicate_tabulate}
use Rattle.model.specs.Limits.{contracts_limit}
use Rattle.model.specs.DayFile.{class_count, series_count, series_type}
use Rattle.model.specs.Steps.Positions.{open_net}
use Rattle.model.specs.Steps.Classes.{type_of}
use Rattle.model.specs.Steps.Minimum.{minimum_rate, type_net, minimum, minimum_types}
use Rattle.model.proofs.Bounds.{type_so_far}
use Rattle.classes.specs.Tables.{entry, Given}
use Rattle.classes.specs.Range.{Range, start, turn, finish}

-- a slot for each number that a type can have: four bits
abbrev pub type_slots : ℕ
type_slots = 16

abbrev pub type_to : List ℕ → (ℕ → ℤ) → ℕ → ℕ → ℕ → ℕ → ℤ
type_to d n k c m t = sum_where m (type_of d c t) (open_net n k)

abbrev pub types_to : List ℕ → (ℕ → ℤ) → ℕ → ℕ → ℕ → List ℤ
types_to d n k c m = tabulate type_slots (type_to d n k c m)

module _ (d : List ℕ) (n : ℕ → ℤ) (k c a b : ℕ) (r : Range d c a b) where
  pub types_start : replicate type_slots (pos 0) ≡ types_to d n k c a
  types_start =
      replicate_tabulate type_slots (pos 0)
      ∙ tabulate_ext type_slots (λ t. pos 0) (type_to d n k c a) (λ t h. start d c a b r (λ s. eqb (series_type d s) t) (open_net n k))

  -- one more series changes the sum of its own type
  pub types_turn : (s : ℕ) → a ≤ s → s < b
      → set (types_to d n k c s) (series_type d s) (type_to d n k c s (series_type d s) +ℤ open_net n k s) ≡ types_to d n k c (s + 1)
  types_turn s p q =
      tabulate-set type_slots (type_to d n k c s) (type_to d n k c (s + 1)) (series_type d s) _ (omega arith)
      (sym (more (series_type d s) ∙ ap (λ (x : Bool). type_to d n k c s (series_type d s) +ℤ cond x (open_net n k s) (pos 0)) (eq-eqb (series_type d s) (series_type d s) refl)))
      (λ t h e. sym (more t ∙ ap (λ (x : Bool). type_to d n k c s t +ℤ cond x (open_net n k s) (pos 0)) (ne_eqb (series_type d s) t (λ z. e (sym z))) ∙ +ℤ_idr (type_to d n k c s t)))
    where
      more : (t : ℕ) → type_to d n k c (s + 1) t ≡ type_to d n k c s t +ℤ cond (eqb (series_type d s) t) (open_net n k s) (pos 0)
      more t = turn d c a b r (λ s. eqb (series_type d s) t) (open_net n k) s p q

  pub types_end : (s : ℕ) → s ≡ b → types_to d n k c s ≡ tabulate type_slots (type_net d n k c)
  unfolding type_net
  types_end s e =
      ap (types_to d n k c) e
      ∙ tabulate_ext type_slots (type_to d n k c b) _ (λ t h. finish d c a b r (λ s. eqb (series_type d s) t) (open_net n k))

module _ (d : List ℕ) (nets : List ℤ) (w : Given d nets) (k c : ℕ) (hk : k < 2) (hc : c < class_count d) where
  pub type_size : (m t : ℕ) → m ≤ series_count d → nat_abs (type_to d (entry nets) k c m t) ≤ contracts_limit
  type_size m t h = type_so_far d (entry nets) w.dvp w.day.rows w.budget k c m hk hc h t

  pub net_of_type : (t : ℕ) → nat_abs (type_net d (entry nets) k c t) ≤ contracts_limit
  unfolding type_net
  net_of_type t = type_size (series_count d) t (le_refl (series_count d))

-- ---- over the types

abbrev pub minimum_to : List ℕ → (ℕ → ℤ) → ℕ → ℕ → ℕ → ℤ
minimum_to d n k c m = sum_to m (λ i. abs_z (type_net d n k c (i + 1)) *ℤ pos (minimum_rate d c (i + 1)))

module _ (d : List ℕ) (n : ℕ → ℤ) (k c : ℕ) where
  pub minimum_start : pos 0 ≡ minimum_to d n k c 0
  minimum_start = sym (sum_to-none _)

  pub minimum_turn : (i : ℕ) → minimum_to d n k c i +ℤ abs_z (type_net d n k c (i + 1)) *ℤ pos (minimum_rate d c (i + 1)) ≡ minimum_to d n k c (i + 1)
  minimum_turn i = sym (sum_to_more i (λ i. abs_z (type_net d n k c (i + 1)) *ℤ pos (minimum_rate d c (i + 1))))

  pub minimum_end : (i : ℕ) → i ≡ minimum_types → minimum_to d n k c i ≡ minimum d n k c
  unfolding minimum
  minimum_end i e = ap (minimum_to d n k c) e
