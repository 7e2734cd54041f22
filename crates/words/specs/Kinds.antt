-- The numbers of the kinds of words.
use Rattle.std.specs.Prelude.{ℕ}
use Rattle.words.specs.declared.Kind.{Kind}
use Rattle.words.specs.declared.Kind.TheVariants.{Unused, Header, Key, Price, Count, High, Low, Totals}

abbrev pub kind_number : Kind → ℕ
kind_number Unused = 0
kind_number Header = 1
kind_number Key = 2
kind_number Price = 3
kind_number Count = 4
kind_number High = 5
kind_number Low = 6
kind_number Totals = 7
