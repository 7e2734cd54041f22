-- The numbers that the model gives the books, and open and exercised positions.
use Rattle.std.specs.Prelude.{ℕ}
use Rattle.positions.specs.declared.Book.{Book}
use Rattle.positions.specs.declared.Book.TheVariants.{Ordinary, Fail}
use Rattle.positions.specs.declared.Holding.{Holding}
use Rattle.positions.specs.declared.Holding.TheVariants.{Open, Exercised}

abbrev pub book_number : Book → ℕ
book_number Ordinary = 0
book_number Fail = 1

abbrev pub holding_number : Holding → ℕ
holding_number Open = 0
holding_number Exercised = 1
