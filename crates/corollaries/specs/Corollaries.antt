-- What a reader may cite about the two calls, for all inputs: an index of the statements.
use Rattle.std.specs.Prelude.{◌≡◌, List, [], ℕ, ◌/◌, ◌≤◌, length, Ok, Err}
use Rattle.model.specs.declared.Check.{Check}
use Rattle.model.specs.Rows.{◌or_else◌}
use Rattle.model.specs.Calls.{verdict, Accepted, net_after, answer, needed, memory_after}
use Rattle.model.specs.Bytes.{words_of, bytes_check, byte_answer, bytes_after}
use Rattle.corollaries.specs.Untouched.{refused_writes_nothing, bytes_refused_writes_nothing, bytes_length_kept}
use Rattle.corollaries.specs.Written.{Written, accepted_writes}
use Rattle.corollaries.specs.Readable.{Readable, readable}
use Rattle.corollaries.specs.Totals.{Totals, totals_are_margins}
use Rattle.model.proofs.ByteWords.{bytes_as_words}
use Rattle.model.proofs.Outcome.{length_kept}
use Rattle.corollaries.specs.Numbers.{Numbers, byte_numbers, numbers as numbers_of_lem}
use Rattle.model.specs.Netting.{net, dvp}

pub record Corollaries : Type 0 where
  -- a refusal leaves the memory as it was
  pub refused : (d b x m : List ℕ) (k : Check) → answer d b x (length m) ≡ Err k → memory_after d b x m ≡ m
  -- no call changes its length
  pub long : (d b x m : List ℕ) → length (memory_after d b x m) ≡ length m
  -- accepted, with room: the answer is the length, and header, maps, lines, totals and the old words stand in this order
  pub written : (d b x m : List ℕ) → Accepted d b x → needed d b ≤ length m → Written d b x m
  -- the amounts read from the words are those of the steps
  pub read : (d b x m : List ℕ) → Accepted d b x → needed d b ≤ length m → Readable d (net b) (net_after d b x) (dvp b) (memory_after d b x m)
  -- the totals read are sums of the lines' margins, whatever the residual credits
  pub totals : (d b x m : List ℕ) → Accepted d b x → needed d b ≤ length m → Totals (memory_after d b x m)
  -- the paper's number and value of the answer, and that the value is below 2 ^ 32
  pub numbers : (d b x : List ℕ) (room : ℕ) → Numbers (verdict d b x) (needed d b) room (answer d b x room)

-- the byte call: the same of its refusals and its length; past rows 1 and 2 it is the call over words
pub record ByteCorollaries : Type 0 where
  pub refused : (day b m : List ℕ) (k : Check) → byte_answer day b (length m) ≡ Err k → bytes_after day b m ≡ m
  pub long : (day b m : List ℕ) → length (bytes_after day b m) ≡ length m
  pub numbers : (day b : List ℕ) (room : ℕ)
      → Numbers (bytes_check day b or_else verdict (words_of day) (words_of b) []) (needed (words_of day) (words_of b)) (room / 4) (byte_answer day b room)
  pub words : (day b m : List ℕ) → bytes_check day b ≡ Ok tt → words_of (bytes_after day b m) ≡ memory_after (words_of day) (words_of b) [] (words_of m)

pub corollaries : Corollaries
corollaries =
    record {
      refused = refused_writes_nothing;
      long = length_kept;
      written = accepted_writes;
      read = readable;
      totals = totals_are_margins;
      numbers = numbers_of_lem;
    }

pub byte_corollaries : ByteCorollaries
byte_corollaries = record { refused = bytes_refused_writes_nothing; long = bytes_length_kept; numbers = byte_numbers; words = bytes_as_words }
