use Rattle.holdings.specs.Seen.{class_day, class_net, class_book}
use Rattle.holdings.specs.Facts.{class_given, class_range, book_below}
use Rattle.std.proofs.Common.{◌+◌, pos, ◌*ℤ◌, ◌+ℤ◌, get_or, ◌∙◌, arith, ◌≡◌, ◌≤◌, ◌<◌, ◌^◌, nat_abs, ℕ, ℤ, to_z, w64}
use Rattle.numbers.specs.Abs.{back, fits_by, told}
use Rattle.numbers.specs.Extremes.{abs_z}
use Rattle.numbers.specs.Table.{get_or-tabulate}
use Rattle.series_types.specs.Types.{number_at}
use Rattle.minimum.specs.Types.{type_slots, minimum_start, minimum_turn, minimum_end, minimum_to, net_of_type}
use Rattle.model.proofs.Bounds.{minimum_so_far, rate_limit}
use Rattle.model.specs.Steps.Minimum.{minimum_rate, type_net}
use Rattle.model.specs.Limits.{contracts_limit}
use Rattle.numbers.specs.Machine.{i64_of}
use Rattle.holdings.specs.declared.ClassHoldings.{ClassHoldings}
use Rattle.minimum.proofs.minimum.Goals as goal
use Rattle.minimum.proofs.minimum.Goals.{After-minimum_rate, After-type_minimum-sum}

pub loop-t-init : goal.loop-t-init
loop-t-init c = let h = c.args.class.now in minimum_start (class_day h) (class_net h) (class_book h) h.class

-- the net within type t, and the minimum over the types below t
abbrev net_at : ClassHoldings → ℕ → ℤ
net_at h = type_net (class_day h) (class_net h) (class_book h) h.class

abbrev below : ClassHoldings → ℕ → ℤ
below h = minimum_to (class_day h) (class_net h) (class_book h) h.class

net_limit : (h : ClassHoldings) (t : ℕ) → nat_abs (net_at h t) ≤ contracts_limit
net_limit h t = net_of_type (class_day h) h.account.now.nets.now (class_given h) (class_book h) h.class (book_below h.book) (class_range h).class t

-- the net and the rate of the type at hand, and the sum with it
net : (c : After-minimum_rate) → i64_of (get_or c.type_nets-sums.result c.number.result (pos 0)) ≡ net_at c.args.class.now (c.loop-t.t-index + 1)
net c =
    let h = c.args.class.now in
    let k = c.loop-t.t-index in
    let number = c.number.ensures ∙ number_at k c.loop-t-test.true in
    back ((λ j. get_or (c.type_nets-sums.ensures j) (number j) (pos 0)) ∙ get_or-tabulate type_slots (net_at h) (k + 1) (pos 0) (omega arith)) (omega (arith, net_limit h (k + 1)))

rate : (c : After-minimum_rate) → c.minimum_rate.result ≡ minimum_rate (class_day c.args.class.now) c.args.class.now.class (c.loop-t.t-index + 1)
rate c = c.minimum_rate.ensures ∙ (λ i. minimum_rate (c.class-of.ensures.0 i) (c.class-of.ensures.1 i) (number_at c.loop-t.t-index c.loop-t-test.true i))

next : (c : After-type_minimum-sum) → to_z w64 c.loop-t.sum-bits +ℤ i64_of c.type_minimum-sum.result ≡ below c.args.class.now (c.loop-t.t-index + 1)
next c =
    let h = c.args.class.now in
    let r = c.before in
    let type_is = told c.type_minimum-sum.type_inv (c.type_minimum-sum.ensures ∙ (λ j. abs_z (net r j) *ℤ pos (rate r j))) in
    (λ i. c.loop-t.invariant i +ℤ type_is i) ∙ minimum_turn (class_day h) (class_net h) (class_book h) h.class c.loop-t.t-index

fits : (c : After-type_minimum-sum) → nat_abs (below c.args.class.now (c.loop-t.t-index + 1)) < 2 ^ 63
fits c =
    let h = c.args.class.now in
    let w = class_given h in
    omega (arith, minimum_so_far (class_day h) (class_net h) w.dvp w.day.rows w.budget (class_book h) h.class (c.loop-t.t-index + 1) (book_below h.book) (class_range h).class (omega arith))

pub type_minimum-sum-requires : goal.type_minimum-sum-requires
type_minimum-sum-requires c =
    let h = c.args.class.now in
    let w = class_given h in
    let r = (goal.at.type_minimum-sum-requires c).After-minimum_rate in
    let k = c.loop-t.t-index in (
      rw (net r) (net_limit h (k + 1)),
      rw (rate r) (rate_limit (class_day h) (class_net h) w.dvp w.day.rows w.budget (class_book h) (book_below h.book) h.class (class_range h).class (k + 1)),
    )

pub overflow_add-sum : goal.overflow_add-sum
overflow_add-sum c = let d = (goal.at.overflow_add-sum c).After-type_minimum-sum in fits_by (next d) (fits d)

pub loop-t-preserved : goal.loop-t-preserved
loop-t-preserved c = let d = (goal.at.loop-t-preserved c).After-type_minimum-sum in back (next d) (fits d)

pub returns : goal.returns
returns c =
    let h = c.args.class.now in
    c.loop-t.invariant ∙ minimum_end (class_day h) (class_net h) (class_book h) h.class c.loop-t.t-index (omega arith)
