use Rattle.std.specs.Prelude.{◌≡◌, ℕ, List, ◌+◌, ◌<◌, ◌||◌, ltb, get_or}
use Rattle.std.proofs.Common.{arith, ap, sym, ◌∙◌}
use Rattle.numbers.specs.Scan.{any_none, any_more, any_below}
use Rattle.numbers.specs.Table.{tabulate, get_or-tabulate}
use Rattle.model.specs.DayFile.{projected}
use Rattle.model.specs.DayChecks.{projected_falls, row18}
use Rattle.model.specs.Limits.{point_count, downside1, upside1, upside5}
use Rattle.day_classes.proofs.prices_out_of_order.Goals as goal

-- p is the ten prices of class c
module _ (d : List ℕ) (c : ℕ) (p : List ℕ) (e : p ≡ tabulate point_count (projected d c)) where
  price : (k : ℕ) → k < point_count → get_or p k 0 ≡ projected d c k
  price k l = rw e (get_or-tabulate point_count (projected d c) k 0 l)

  falls : (k : ℕ) → k < upside5 → ltb (get_or p (k + 1) 0) (get_or p k 0) ≡ projected_falls d c k
  unfolding projected_falls
  falls k l = rw (price (k + 1) (omega arith), price k (omega arith))

pub loop-k-init : goal.loop-k-init
loop-k-init c = sym (any_none _)

pub loop-k-preserved : goal.loop-k-preserved
loop-k-preserved c =
    let a = c.args.class.now in
    let l = c.loop-k in
    (λ i. l.invariant i || falls a.day.now a.place c.projected_prices-prices.result c.projected_prices-prices.ensures l.k (omega arith) i)
    ∙ sym (any_more (projected_falls a.day.now a.place) l.k)

pub returns : goal.returns
unfolding row18
returns c =
    let a = c.args.class.now in
    let p = price a.day.now a.place c.projected_prices-prices.result c.projected_prices-prices.ensures in
    let e : c.loop-k.k ≡ upside5 = omega arith in
    (λ i. ((c.loop-k.invariant ∙ ap (λ (k : ℕ). any_below k (projected_falls a.day.now a.place)) e) i || ltb (c.underlying-underlying.ensures i) (p downside1 (omega arith) i)) || ltb (p upside1 (omega arith) i) (c.underlying-underlying.ensures i))
