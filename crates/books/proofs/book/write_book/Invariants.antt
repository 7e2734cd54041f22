use Rattle.holdings.specs.Seen.{day_of, net_of, dvp_of}
use Rattle.positions.specs.Books.{book_number}
use Rattle.std.proofs.Common.{◌≡◌, ◌+◌, length}
use Rattle.numbers.specs.Put.{put}
use Rattle.numbers.specs.Sums.{sum_where}
use Rattle.numbers.specs.Table.{entry}
use Rattle.model.specs.Steps.Lines.{has_line}
use Rattle.model.specs.Steps.Margin.{margin}
use Rattle.books.specs.Book.{lines_below}
use Rattle.books.proofs.book.write_book.Given as goal

abbrev pub invariant-loop-g : goal.invariant-loop-g
invariant-loop-g l =
    record {
      at : l.p.at ≡ l.at + length (lines_below (day_of l.fn.of.after.now) (entry l.fn.of.nets.now) (net_of l.fn.of.after.now) (dvp_of l.fn.of.after.now) (book_number l.book) l.g);
      total : l.p.total ≡ sum_where l.g (has_line (day_of l.fn.of.after.now) (entry l.fn.of.nets.now) (dvp_of l.fn.of.after.now) (book_number l.book)) (margin (day_of l.fn.of.after.now) (net_of l.fn.of.after.now) (dvp_of l.fn.of.after.now) (book_number l.book));
      memory : l.memory ≡ put l.at (lines_below (day_of l.fn.of.after.now) (entry l.fn.of.nets.now) (net_of l.fn.of.after.now) (dvp_of l.fn.of.after.now) (book_number l.book) l.g) l.fn.memory;
    }
