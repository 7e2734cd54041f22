-- The order of accepted deposits does not matter: in any order they are accepted. And there are 64 at most, as many as class numbers.
use Rattle.std.specs.Prelude.{Option, Some, None, is_some}
use mathlib.Core.Path.{◌≡◌, refl, sym, ap, ◌∙◌}
use mathlib.Core.Bool.{Bool, true, false, not, ◌||◌, cond}
use mathlib.Core.List.{List}
use Prim.Native.Nat.{ℕ, ◌%◌, ◌^◌, ◌≤◌, ◌<◌}
use native.Mathlib.Omega.{arith}
use borrow.Author.Tests.{eqb-true, le-ltb, ltb-false, not-false}
use lib.Dec.{eqb, ltb}
use lib.IntN.{ℤ, pos, nat_abs}
use lib.ListN.{get_or}
use Rattle.numbers.specs.Scan.{first_at}
use Rattle.numbers.specs.Budget.{sum-pos}
use Rattle.numbers.specs.Lists.{clear_perm}
use Rattle.numbers.specs.Perms.{sum_of, sum_to_of, sum-perm}
use Rattle.numbers.specs.Distinct.{again, times, once, once_back, no_more}
use Rattle.model.specs.Limits.{shares_limit}
use Rattle.model.specs.DayFile.{class_count, class_number, class_with, class_place}
use Rattle.model.specs.Deposits.{deposit_words, deposit_count, named_number, shares}
use Rattle.model.specs.DepositChecks.{odd_words, row50, unlike, row51}
use Rattle.model.specs.Locality.{deposit_at, deposits, DepositsReordered}
use Rattle.numbers.specs.Tests.{or_left, or_right}
use Rattle.model.proofs.Accepted.{DepositRows}

-- ---- the parts of row 50

abbrev unknown : List ℕ → ℕ → Bool
unknown d n = not (is_some (class_with d n))

abbrev too_many : ℕ → Bool
too_many n = ltb shares_limit n

module _ (d x : List ℕ) (i : ℕ) (e : row50 d x i ≡ false) where
  pub known : unknown d (named_number x i) ≡ false
  unfolding row50
  known =
      or_left (unknown d (named_number x i)) (again (named_number x) i)
      (or_left (unknown d (named_number x i) || again (named_number x) i) (too_many (shares x i)) e)

  pub not-again : again (named_number x) i ≡ false
  unfolding row50
  not-again =
      or_right (unknown d (named_number x i)) (again (named_number x) i)
      (or_left (unknown d (named_number x i) || again (named_number x) i) (too_many (shares x i)) e)

  few_shares : too_many (shares x i) ≡ false
  unfolding row50
  few_shares = or_right (unknown d (named_number x i) || again (named_number x) i) (too_many (shares x i)) e

row50_parts : (d x : List ℕ) (i : ℕ) → unknown d (named_number x i) ≡ false → again (named_number x) i ≡ false → too_many (shares x i) ≡ false → row50 d x i ≡ false
unfolding row50
row50_parts d x i p q r = λ j. p j || q j || r j

-- ---- 64 at most

-- a class number has six bits
abbrev pub class_numbers : ℕ
class_numbers = 2 ^ 6

class_low : (d : List ℕ) (c : ℕ) → class_number d c < class_numbers
class_low d c = omega arith

number_low : (d : List ℕ) (n : ℕ) → unknown d n ≡ false → n < class_numbers
number_low d n e = by (class_with d n) refl (not-false (is_some (class_with d n)) e)
  where
    by : (f : Option ℕ) → class_with d n ≡ f → is_some f ≡ true → n < class_numbers
    by (Some c) p q =
        let z = eqb-true (class_number d c) n (first_at (λ c. eqb (class_number d c) n) (class_count d) c p).1 in
        omega (arith, class_low d c)
    by None p q = absurd (let z : ◌≡◌ {A = ℕ} 0 1 = cc in omega arith)

-- the deposits below m meet nothing of row 50: then m is 64 at most
pub few_passed : (d x : List ℕ) (m : ℕ) → ((i : ℕ) → i < m → row50 d x i ≡ false) → m ≤ class_numbers
few_passed d x m h =
    no_more (named_number x) class_numbers m (λ i l. not-again d x i (h i l)) (λ i l. number_low d (named_number x i) (known d x i (h i l)))

pub few_deposits_lem : (d x : List ℕ) → DepositRows d x → deposit_count x ≤ class_numbers
few_deposits_lem d x r = few_passed d x (deposit_count x) r.at50

-- ---- any order

module _ (d x₁ x₂ : List ℕ) (o : DepositsReordered x₁ x₂) where
  carried : (t : List ℕ → Bool) → ((i : ℕ) → i < deposit_count x₁ → t (deposit_at x₁ i) ≡ false) → (i : ℕ) → i < deposit_count x₂ → t (deposit_at x₂ i) ≡ false
  carried t = clear_perm t (deposit_count x₁) (deposit_count x₂) (deposit_at x₁) (deposit_at x₂) o.same

  -- a number is named as often
  as_often : (n : ℕ) → times (named_number x₁) (deposit_count x₁) n ≡ times (named_number x₂) (deposit_count x₂) n
  as_often n = ap nat_abs (in_list x₁ ∙ sum-perm named (deposits x₁) (deposits x₂) o.same ∙ sym (in_list x₂))
    where
      named : List ℕ → ℤ
      named w = cond (eqb (get_or w 0 0) n) (pos 1) (pos 0)

      in_list : (x : List ℕ) → pos (times (named_number x) (deposit_count x) n) ≡ sum_of named (deposits x)
      in_list x = sym (sum-pos (deposit_count x) (λ j. eqb (named_number x j) n) (λ j. 1)) ∙ sum_to_of named (deposit_count x) (deposit_at x)

  once_each : DepositRows d x₁ → (i : ℕ) → i < deposit_count x₂ → times (named_number x₂) (deposit_count x₂) (named_number x₂ i) ≤ 1
  once_each r i h =
      let c = once (named_number x₁) (deposit_count x₁) (λ j l. not-again d x₁ j (r.at50 j l)) in
      let e = carried (λ w. ltb 1 (times (named_number x₁) (deposit_count x₁) (get_or w 0 0)))
      (λ j l. le-ltb 1 (times (named_number x₁) (deposit_count x₁) (named_number x₁ j)) (c (named_number x₁ j))) i h
      in
      omega (arith, ltb-false 1 (times (named_number x₁) (deposit_count x₁) (named_number x₂ i)) e, as_often (named_number x₂ i))

  pub deposits_still : DepositRows d x₁ → DepositRows d x₂
  unfolding odd_words row51
  deposits_still r =
      record {
        even = sym (λ j. ltb 0 (o.long j % deposit_words)) ∙ r.even;
        at50 =
            λ i h.
            row50_parts d x₂ i
            (carried (λ w. unknown d (get_or w 0 0)) (λ j l. known d x₁ j (r.at50 j l)) i h)
            (once_back (named_number x₂) (deposit_count x₂) (once_each r) i h)
            (carried (λ w. too_many (get_or w 1 0)) (λ j l. few_shares d x₁ j (r.at50 j l)) i h);
        at51 = carried (λ w. unlike d (class_place d (get_or w 0 0))) r.at51;
      }
