-- The bytes that a file has left, where they are known. A file that was not opened has none.
use Rattle.std.specs.Prelude.{ℕ, List, [], None, Some}
use Rattle.std.specs.declared.option.Option.{Option}

abbrev pub left : {F : Type 0} → (F → Option (List ℕ)) → Option F → Option (List ℕ)
left known None = Some []
left known (Some file) = known file
