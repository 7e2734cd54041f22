use Rattle.std.proofs.Common.{◌≡◌, true, ◌<◌, ℕ, ◌+◌, ◌≤◌, List, ap, arith, get_or, ◌∙◌, sym}
use Rattle.classes.specs.Checked.{checked_rows}
use Rattle.classes.specs.Range.{Range, range, start_of}
use Rattle.holdings.specs.Facts.{day_accepted, given}
use Rattle.holdings.specs.Seen.{day_of, net_of}
use Rattle.model.specs.DayFile.{class_count, series_count, series_class, series_type}
use Rattle.model.specs.Steps.Cover.{is_coverable}
use Rattle.cover.specs.Keys.{order_key, key_adds, key_at}
use Rattle.cover.specs.Before.{before-size, before_end, before_start, before_to, before_turn}
use Rattle.cover.specs.declared.order.Order.{Order}
use Rattle.cover.proofs.Keys.{key-adds}
use Rattle.cover.proofs.order.Order.covered_before.Goals as goal

module _ (o : Order) (c s : ℕ) (own : (c < class_count (day_of o.account.now.holdings.now)) × (series_class (day_of o.account.now.holdings.now) s ≡ c)) where
  abbrev d : List ℕ
  d = day_of o.account.now.holdings.now

  -- the series of the class of series s
  own_range : Range d (series_class d s) (start_of d c) (start_of d (c + 1))
  own_range = rw own.1 (range d (checked_rows d o.account.now.holdings.now.day.now.checked) c own.0)

  key_is : (t : ℕ) → t < series_count d → get_or o.keys t 0 ≡ order_key d (net_of o.account.now.holdings.now) t
  key_is t h = ap (λ (l : List ℕ). get_or l t 0) o.keys_value ∙ key_at d (net_of o.account.now.holdings.now) t h (day_accepted o.account.now.holdings.now).series

  -- a turn of the loop
  turn : (t : ℕ) → start_of d c ≤ t → t < start_of d (c + 1) → (s < series_count d) × (is_coverable (series_type d s) ≡ true)
      → before_to d (net_of o.account.now.holdings.now) s t + key_adds (get_or o.keys s 0) (get_or o.keys t 0) ≡ before_to d (net_of o.account.now.holdings.now) s (t + 1)
  turn t p q h =
      let few = (day_accepted o.account.now.holdings.now).series in
      let in_class : t < series_count d = omega (arith, own_range.end) in
      (λ i. before_to d (net_of o.account.now.holdings.now) s t + ((λ j. key_adds (key_is s h.0 j) (key_is t in_class j)) ∙ key-adds d (net_of o.account.now.holdings.now) s t (omega (arith, few, h.0)) (omega (arith, few, in_class)) h.1) i)
      ∙ before_turn d (net_of o.account.now.holdings.now) s (start_of d c) (start_of d (c + 1)) own_range t p q

pub bounds-self-s : goal.bounds-self-s
bounds-self-s c = omega (arith, (day_accepted c.args.self.now.account.now.holdings.now).series)

pub loop-t-init : goal.loop-t-init
loop-t-init c =
    let o = c.args.self.now in
    let d = day_of o.account.now.holdings.now in
    before_start d (net_of o.account.now.holdings.now) c.args.s (start_of d c.args.c) (start_of d (c.args.c + 1)) (own_range o c.args.c c.args.s c.requires.class_value)
    ∙ ap (before_to d (net_of o.account.now.holdings.now) c.args.s) (sym c.series_of-series.ensures.range.0)

pub bounds-self-t : goal.bounds-self-t
bounds-self-t c = omega (arith, (day_accepted c.args.self.now.account.now.holdings.now).series)

pub overflow_add-sum : goal.overflow_add-sum
overflow_add-sum c =
    let o = c.args.self.now in
    let w = day_accepted o.account.now.holdings.now in
    let next = (λ i. c.loop-t.invariant i + c.key_adds-sum.ensures i) ∙ turn o c.args.c c.args.s c.requires.class_value c.loop-t.t (omega arith) (omega arith) c.requires.s_bound in
    let inside : c.loop-t.t + 1 ≤ series_count (day_of o.account.now.holdings.now) = omega arith in
    record { fits = omega (arith, next, before-size (day_of o.account.now.holdings.now) o.account.now.holdings.now.nets.now (given o.account.now.holdings.now) c.args.s (c.loop-t.t + 1) inside, inside, w.series) }

pub loop-t-preserved : goal.loop-t-preserved
loop-t-preserved c =
    let o = c.args.self.now in
    (λ i. c.loop-t.invariant i + c.key_adds-sum.ensures i) ∙ turn o c.args.c c.args.s c.requires.class_value c.loop-t.t (omega arith) (omega arith) c.requires.s_bound

pub returns : goal.returns
returns c =
    let o = c.args.self.now in
    let d = day_of o.account.now.holdings.now in
    let n = net_of o.account.now.holdings.now in
    let e : c.loop-t.t ≡ start_of d (c.args.c + 1) = omega arith in
    c.loop-t.invariant ∙ ap (before_to d n c.args.s) e
    ∙ before_end d n c.args.s (start_of d c.args.c) (start_of d (c.args.c + 1)) (own_range o c.args.c c.args.s c.requires.class_value)
