use Rattle.std.proofs.Common.{◌≡◌, pos}
use Rattle.numbers.specs.Filling.{filled}
use Rattle.model.specs.Limits.{group_count}
use Rattle.model.specs.Steps.Margin.{margin}
use Rattle.positions.specs.Books.{book_number}
use Rattle.holdings.specs.Seen.{day_of, net_of, dvp_of}
use Rattle.kept_account.specs.Margins.{total_below}
use Rattle.kept_account.proofs.margins.Margins.of_book.Given as goal

abbrev pub invariant-loop-g : goal.invariant-loop-g
invariant-loop-g l =
    record {
      lines : l.lines ≡ filled group_count (margin (day_of l.account) (net_of l.account) (dvp_of l.account) (book_number l.book)) (λ i. pos 0) l.g;
      total : l.total ≡ total_below (day_of l.account) (net_of l.account) (dvp_of l.account) (book_number l.book) l.g;
    }
