use Rattle.holdings.specs.Seen.{group_day, group_net, group_dvp, group_book}
use Rattle.holdings.specs.Facts.{day_accepted, budget, book_below}
use Rattle.std.proofs.Math.IntN.{+ℤ_idl}
use Rattle.std.proofs.Common.{ℤ, ◌<◌, ◌^◌, ◌≡◌, [], ◌∷◌, pos, nat_abs, ◌-ℤ◌, subst, sym, le_refl, arith, ◌∙◌, ap, neg_ℤ, refl}
use Rattle.margin.proofs.line.group_line.Goals as goal
use Rattle.margin.proofs.line.group_line.Goals.{After-group_amounts-sums, After-group_sum-total}
use Rattle.margin.specs.Groups.{Small, below_small}
use Rattle.margin.specs.Lines.{line_is, requirement-size, requirement_of, sum-size, sum_of}
use Rattle.margin.specs.declared.group.Amounts.{Amounts}
use Rattle.model.specs.DayFile.{class_count}
use Rattle.std.specs.Int.{int_max}
use Rattle.std.specs.Int.Signed.{mag}
use Rattle.numbers.specs.Machine.{i64_of, max_is}
use Rattle.numbers.specs.Abs.{back, fits_by, nat_abs-neg, told}

-- the sums of the group are small
small : (c : After-group_amounts-sums) → Small c.group_amounts-sums.result
small c =
    let h = c.args.held.now in
    subst Small (sym c.group_amounts-sums.ensures) (below_small (group_day h) (group_net h) (group_dvp h) (group_book h) h.group (day_accepted h.account.now).rows (budget h.account.now) (book_below h.book) (class_count (group_day h)) h.inside (le_refl (class_count (group_day h))))

-- small sums are what the machine reads, and so is the sum over them
module _ (a : Amounts) (w : Small a) where
  spread_is : i64_of a.spread ≡ a.spread
  spread_is = back refl (omega (arith, w.spread_small))

  mtm_is : i64_of a.mtm ≡ a.mtm
  mtm_is = back refl (omega (arith, w.mtm_small))

  premium_is : i64_of a.premium ≡ a.premium
  premium_is = back refl (omega (arith, w.premium_small))

  abbrev requirement : ℤ
  requirement = requirement_of a.points.at a.minimum

  requirement_is : {r : ℤ} → mag r < 2 ^ 63 → r ≡ requirement_of a.points.at (i64_of a.minimum) → i64_of r ≡ requirement
  requirement_is h e = told h (e ∙ ap (requirement_of a.points.at) (back {r = a.minimum} refl (omega (arith, w.minimum_small))))

  abbrev sum : ℤ
  sum = sum_of a.spread a.mtm a.premium requirement

  minus_fits : nat_abs (neg_ℤ sum) < 2 ^ 63
  minus_fits = omega (arith, nat_abs-neg sum, sum-size a.spread a.mtm a.premium requirement w.spread_small w.mtm_small w.premium_small (requirement-size a w))

-- the total, and its negative
total_is : (c : After-group_sum-total) (w : Small c.group_amounts-sums.result) → i64_of c.group_sum-total.result ≡ sum c.group_amounts-sums.result w
total_is c w =
    let a : Amounts = c.group_amounts-sums.result in
    let r = c.additional_requirement-requirement in
    told c.group_sum-total.type_inv (c.group_sum-total.ensures ∙ (λ i. sum_of (spread_is a w i) (mtm_is a w i) (premium_is a w i) (requirement_is a w r.type_inv r.ensures i)))

minus_is : (c : After-group_sum-total) (w : Small c.group_amounts-sums.result) → pos 0 -ℤ i64_of c.group_sum-total.result ≡ neg_ℤ (sum c.group_amounts-sums.result w)
minus_is c w = ap (λ y. pos 0 -ℤ y) (total_is c w) ∙ +ℤ_idl (neg_ℤ (sum c.group_amounts-sums.result w))

pub group_sum-total-requires : goal.group_sum-total-requires
group_sum-total-requires c =
    let a : Amounts = c.group_amounts-sums.result in
    let w = small (goal.at.group_sum-total-requires c).After-group_amounts-sums in
    let r = c.additional_requirement-requirement in (
      rw (spread_is a w) w.spread_small,
      rw (mtm_is a w) w.mtm_small,
      rw (premium_is a w) w.premium_small,
      rw (requirement_is a w r.type_inv r.ensures) (requirement-size a w),
    )

pub overflow_sub-total : goal.overflow_sub-total
overflow_sub-total c =
    let w = small (goal.at.overflow_sub-total c).After-group_amounts-sums in
    fits_by (minus_is (goal.at.overflow_sub-total c).After-group_sum-total w) (minus_fits c.group_amounts-sums.result w)

pub returns : goal.returns
returns c =
    let h = c.args.held.now in
    let a : Amounts = c.group_amounts-sums.result in
    let w = small (goal.at.returns c).After-group_amounts-sums in
    let t = (goal.at.returns c).After-group_sum-total in
    let r = c.additional_requirement-requirement in
    let z = sum a w in
    (λ i. spread_is a w i ∷ mtm_is a w i ∷ premium_is a w i ∷ requirement_is a w r.type_inv r.ensures i
    ∷ told c.max.type_inv (c.max.ensures.value ∙ ap (λ x. int_max x (pos 0)) (total_is t w) ∙ max_is z (pos 0)) i
    ∷ told c.max-2.type_inv (c.max-2.ensures.value ∙ ap (λ x. int_max x (pos 0)) (back (minus_is t w) (minus_fits a w)) ∙ max_is (neg_ℤ z) (pos 0)) i ∷ [])
    ∙ line_is (group_day h) (group_net h) (group_dvp h) (group_book h) h.group a c.group_amounts-sums.ensures
