use Rattle.std.proofs.Common.{◌≡◌, ℕ, ℤ, ◌+ℤ◌, ◌+◌, ◌<◌, ◌≤◌, ◌^◌, nat_abs, to_z, w64, pos, sym, ap, ◌∙◌, arith, set}
use Rattle.numbers.specs.Abs.{back, fits_by, told}
use Rattle.numbers.specs.Filling.{filled_none, filled_more, filled_all}
use Rattle.numbers.specs.Machine.{i64_of}
use Rattle.numbers.specs.Sums.{sum_where-zero}
use Rattle.numbers.specs.Table.{replicate_tabulate}
use Rattle.model.specs.Limits.{group_count}
use Rattle.model.specs.Steps.Lines.{has_line, total}
use Rattle.model.specs.Steps.Margin.{margin}
use Rattle.model.proofs.Bounds.{total_so_far}
use Rattle.positions.specs.Books.{book_number}
use Rattle.holdings.specs.Facts.{day_accepted, budget, book_below}
use Rattle.holdings.specs.Seen.{day_of, net_of, dvp_of}
use Rattle.kept_account.specs.Margins.{total_below, total_more}
use Rattle.kept_account.proofs.margins.Margins.of_book.Goals as goal
use Rattle.kept_account.proofs.margins.Margins.of_book.Goals.{After-line_margin-margin}

pub loop-g-init : goal.loop-g-init
loop-g-init c =
    let h = c.args.account.now in
    let m = margin (day_of h) (net_of h) (dvp_of h) (book_number c.args.book) in
    record {
      lines = replicate_tabulate group_count (pos 0) ∙ filled_none group_count m (λ i. pos 0);
      total = sym (sum_where-zero (has_line (day_of h) (net_of h) (dvp_of h) (book_number c.args.book)) m);
    }

-- the sum with one margin more
module _ (c : After-line_margin-margin) where
  abbrev below : ℕ → ℤ
  below = total_below (day_of c.args.account.now) (net_of c.args.account.now) (dvp_of c.args.account.now) (book_number c.args.book)

  margin_is : i64_of c.line_margin-margin.result ≡ margin (day_of c.args.account.now) (net_of c.args.account.now) (dvp_of c.args.account.now) (book_number c.args.book) c.loop-g.g
  margin_is = told c.line_margin-margin.type_inv c.line_margin-margin.ensures

  sum_is : to_z w64 c.loop-g.total-bits +ℤ i64_of c.line_margin-margin.result ≡ below (c.loop-g.g + 1)
  sum_is =
      (λ i. c.loop-g.invariant.total i +ℤ margin_is i)
      ∙ sym (total_more (day_of c.args.account.now) (net_of c.args.account.now) (dvp_of c.args.account.now) (book_number c.args.book) c.loop-g.g)

  small : (g : ℕ) → g ≤ group_count → nat_abs (below g) < 2 ^ 63
  small g h =
      let a = c.args.account.now in
      total_so_far (day_of a) (net_of a) (dvp_of a) (day_accepted a).rows (budget a) (net_of a) (book_number c.args.book) g (book_below c.args.book) h

pub overflow_add-total : goal.overflow_add-total
overflow_add-total c =
    let w = (goal.at.overflow_add-total c).After-line_margin-margin in
    fits_by (sum_is w) (small w (c.loop-g.g + 1) (omega (arith, c.loop-g-test.true)))

pub loop-g-preserved : goal.loop-g-preserved
loop-g-preserved c =
    let h = c.args.account.now in
    let w = (goal.at.loop-g-preserved c).After-line_margin-margin in
    let m = margin (day_of h) (net_of h) (dvp_of h) (book_number c.args.book) in
    record {
      lines = (λ i. set (c.loop-g.invariant.lines i) c.loop-g.g (margin_is w i)) ∙ filled_more group_count m (λ i. pos 0) c.loop-g.g c.loop-g-test.true;
      total = back (sum_is w) (small w (c.loop-g.g + 1) (omega (arith, c.loop-g-test.true)));
    }

pub returns : goal.returns
unfolding total
returns c =
    let h = c.args.account.now in
    let m = margin (day_of h) (net_of h) (dvp_of h) (book_number c.args.book) in
    let e : c.loop-g.g ≡ group_count = omega (arith, c.loop-g-test.false) in
    let lines = c.loop-g.invariant.lines ∙ filled_all group_count m (λ i. pos 0) c.loop-g.g (omega arith) in
    let sum = c.loop-g.invariant.total ∙ ap (total_below (day_of h) (net_of h) (dvp_of h) (book_number c.args.book)) e in
    λ i. record { lines = lines i; total = sum i }
