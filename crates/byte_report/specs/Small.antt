-- Files that are small: they are read into less memory.
use Rattle.std.specs.Prelude.{ℕ}

-- the words of a day file and of a batch
abbrev pub small_day : ℕ
small_day = 1024

abbrev pub small_batch : ℕ
small_batch = 512
