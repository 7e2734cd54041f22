use Rattle.holdings.specs.Seen.{day_of, net_of, dvp_of}
use Rattle.holdings.specs.Facts.{day_accepted, budget, book_below}
use Rattle.positions.specs.Books.{book_number}
use Rattle.model.specs.DayFile.{group}
use Rattle.std.proofs.Common.{subst, ◌∙◌, sym, arith}
use Rattle.margin.specs.Groups.{Small, added, class_amounts, below_small, class_added, class_skipped, class_small}
use Rattle.margin.proofs.group.add_class.Goals as goal

pub returns-then-group-held : goal.returns-then-group-held
returns-then-group-held c =
    let d = (day_of c.args.held.now.account.now) in
    let n = net_of c.args.held.now.account.now in
    let v = dvp_of c.args.held.now.account.now in
    let k = (book_number c.args.held.now.book) in
    let g = c.args.held.now.group in
    let cls = c.args.c in
    c.requires.sum_value ∙ class_skipped (d) (n) (v) (k) (g) (cls) (λ e. c.if-group-held.true (c.group.ensures ∙ (λ i. group (c.class.ensures.0 i) (c.class.ensures.1 i)) ∙ e))

pub add-requires : goal.add-requires
add-requires c =
    let d = (day_of c.args.held.now.account.now) in
    let n = net_of c.args.held.now.account.now in
    let v = dvp_of c.args.held.now.account.now in
    let k = (book_number c.args.held.now.book) in
    let g = c.args.held.now.group in
    let cls = c.args.c in
    let small : Small c.args.sum = subst Small (sym c.requires.sum_value) (below_small d n v k g (day_accepted c.args.held.now.account.now).rows (budget c.args.held.now.account.now) (book_below c.args.held.now.book) cls c.args.held.now.inside (omega (arith, c.requires.c_bound))) in
    let class_fits : Small (class_amounts d n v k cls) = class_small d n v k g (day_accepted c.args.held.now.account.now).rows (budget c.args.held.now.account.now) (book_below c.args.held.now.book) cls c.requires.c_bound in
    record { small = small; small_2 = subst Small (sym c.class_amounts.ensures) (class_fits) }

pub returns : goal.returns
returns c =
    let d = (day_of c.args.held.now.account.now) in
    let n = net_of c.args.held.now.account.now in
    let v = dvp_of c.args.held.now.account.now in
    let k = (book_number c.args.held.now.book) in
    let g = c.args.held.now.group in
    let cls = c.args.c in
    c.add.ensures ∙ (λ j. added (c.requires.sum_value j) (c.class_amounts.ensures j))
    ∙ class_added (d) (n) (v) (k) (g) (cls) (sym (c.group.ensures ∙ (λ i. group (c.class.ensures.0 i) (c.class.ensures.1 i))) ∙ c.if-group-held.false)
