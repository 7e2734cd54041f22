-- The bytes of a quoted text, so that what is printed can be spelled out.
use Rattle.std.specs.Prelude.{List, [] as []ᴸ, ◌∷◌ as ◌∷ᴸ◌, ℕ}
use Prim.Native.Char.{code}
use Prim.Native.String.{String, [], ◌∷◌}

unfoldable pub ascii : String → List ℕ
ascii [] = []ᴸ
ascii (c ∷ s) = code c ∷ᴸ ascii s
