use Rattle.std.proofs.Common.{ap, pos, get_or}
use Rattle.numbers.specs.Abs.{back}
use Rattle.model.specs.Steps.Margin.{line_amounts}
use Rattle.model.proofs.Bounds.{margin_small}
use Rattle.positions.specs.Books.{book_number}
use Rattle.holdings.specs.Facts.{day_accepted, budget, book_below}
use Rattle.holdings.specs.Seen.{day_of, net_of, dvp_of}
use Rattle.kept_account.proofs.margins.line_margin.Goals as goal

pub returns : goal.returns
unfolding line_amounts
returns c =
    let h = c.args.account.now in
    back (ap (λ l. get_or l 4 (pos 0)) c.group_line.ensures)
    (margin_small (day_of h) (net_of h) (dvp_of h) (day_accepted h).rows (budget h) (book_number c.args.book) c.args.group (book_below c.args.book) c.requires)
