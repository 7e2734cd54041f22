use Rattle.positions.specs.Books.{book_number}
use Rattle.std.proofs.Common.{◌≡◌, ◌^◌}
use Rattle.numbers.specs.Maps.{map_below}
use Rattle.numbers.specs.Table.{entry}
use Rattle.model.specs.Steps.Lines.{has_line}
use Rattle.books.proofs.maps.book_map.Given as goal

abbrev pub invariant-loop-g : goal.invariant-loop-g
invariant-loop-g l =
    record {
      map : l.map ≡ map_below (has_line l.day.words.now (entry l.fn.of.nets.now) (entry l.fn.of.dvps.now) (book_number l.fn.of.book)) l.g;
      bit : l.bit ≡ 2 ^ l.g;
    }
