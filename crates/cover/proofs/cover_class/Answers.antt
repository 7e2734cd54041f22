use Rattle.std.proofs.Common.{◌≡◌, ◌+◌, length, w64, to_z, of_z, ◌∙◌, arith, ap, sym, set}
use Rattle.classes.specs.Checked.{checked_rows}
use Rattle.classes.specs.Range.{range, start_of}
use Rattle.holdings.specs.Facts.{day_accepted}
use Rattle.holdings.specs.Seen.{day_of, net_of}
use Rattle.model.specs.DayFile.{series_class}
use Rattle.model.specs.Deposits.{shares_of}
use Rattle.model.specs.Netting.{position_count}
use Rattle.model.specs.Steps.Cover.{covered}
use Rattle.cover.specs.Covered.{covered_to, covered_with, class_kept, covered-length, covered_with_lem}
use Rattle.cover.proofs.cover_class.Goals as goal
use Rattle.numbers.specs.Abs.{told}
use Rattle.numbers.specs.Filling.{filled_more}

pub returns-then-shares-eq0 : goal.returns-then-shares-eq0
returns-then-shares-eq0 c =
    let h = c.args.order.now.account.now.holdings.now in
    let d = day_of h in
    c.requires.after_value
    ∙ class_kept d c.args.order.now.account.now.deposits.now (net_of h) c.args.c (start_of d c.args.c) (start_of d (c.args.c + 1)) (range d (checked_rows d h.day.now.checked) c.args.c c.requires.c_bound)
    (sym c.deposited-shares.ensures ∙ c.if-shares-eq0.true)

pub loop-s-init : goal.loop-s-init
loop-s-init c =
    let h = c.args.order.now.account.now.holdings.now in
    c.requires.after_value ∙ ap (covered_to (day_of h) c.args.order.now.account.now.deposits.now (net_of h)) (sym c.series_of-series.ensures.range.0)

pub series_covered-requires : goal.series_covered-requires
series_covered-requires c =
    let h = c.args.order.now.account.now.holdings.now in
    let d = day_of h in
    let r = range d (checked_rows d h.day.now.checked) c.args.c c.requires.c_bound in
    record { class_value = (c.requires.c_bound, r.here c.loop-s.s (omega arith) (omega arith)); s_bound = omega arith }

pub bounds-after-s : goal.bounds-after-s
bounds-after-s c =
    let h = c.args.order.now.account.now.holdings.now in
    let long : length c.loop-s.after ≡ position_count = ap length c.loop-s.invariant ∙ covered-length (day_of h) c.args.order.now.account.now.deposits.now (net_of h) c.loop-s.s in
    omega (arith, long, (day_accepted h).series)

pub loop-s-preserved : goal.loop-s-preserved
loop-s-preserved c =
    let h = c.args.order.now.account.now.holdings.now in
    let d = day_of h in
    let n = net_of h in
    let x = c.args.order.now.account.now.deposits.now in
    let r = range d (checked_rows d h.day.now.checked) c.args.c c.requires.c_bound in
    let s = c.loop-s.s in
    let k = c.deposited-shares.result in
    let own : series_class d s ≡ c.args.c = r.here s (omega arith) (omega arith) in
    let whole : covered_with d n k s ≡ covered d x n s = covered_with_lem d x n k s (omega arith) (c.deposited-shares.ensures ∙ ap (shares_of d x) (sym own)) in
    let stored : to_z w64 (of_z w64 c.series_covered.result) ≡ covered d x n s = told c.series_covered.type_inv c.series_covered.ensures ∙ whole in
    (λ j. set (c.loop-s.invariant j) s (stored j)) ∙ filled_more position_count (covered d x n) n s (omega (arith, (day_accepted h).series))

pub returns : goal.returns
returns c =
    let h = c.args.order.now.account.now.holdings.now in
    let d = day_of h in
    let e : c.loop-s.s ≡ start_of d (c.args.c + 1) = omega arith in
    c.loop-s.invariant ∙ ap (covered_to d c.args.order.now.account.now.deposits.now (net_of h)) e
