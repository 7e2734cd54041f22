-- The position batch: the fields of record r. b is the list of its words.
use Rattle.std.specs.Prelude.{List, ◌∷◌, ℕ, ◌+◌, ◌*◌, ◌-◌, ◌/◌, ◌%◌, ℤ, get_or, set}
use Rattle.model.specs.Words.{payload, bits, word, magnitude, amount, amount_words}

abbrev pub batch_header : List ℕ → ℕ
batch_header b = get_or b 0 0

abbrev pub record_count : List ℕ → ℕ
record_count b = payload (batch_header b)

-- the batch with another header in place of its own
abbrev pub headed : ℕ → List ℕ → List ℕ
headed h b = set b 0 h

-- the words of a record, and of a batch of r records, behind which record r stands
abbrev pub record_words : ℕ
record_words = 6

abbrev pub batch_words : ℕ → ℕ
batch_words r = 1 + record_words * r

abbrev pub record_word : List ℕ → ℕ → ℕ → ℕ
record_word b r i = get_or b (batch_words r + i) 0

-- word i of a batch, 0 its header, is word field_of i of record record_of i
abbrev pub record_of : ℕ → ℕ
record_of i = (i - 1) / record_words

abbrev pub field_of : ℕ → ℕ
field_of i = (i - 1) % record_words

-- the key's ten bits name the position: series, bit 8 and bit 9
abbrev pub key : List ℕ → ℕ → ℕ
key b r = bits (payload (record_word b r 0)) 0 10

abbrev pub place : List ℕ → ℕ → ℕ
place b r = bits (payload (record_word b r 0)) 0 8

abbrev pub exercised : List ℕ → ℕ → ℕ
exercised b r = bits (payload (record_word b r 0)) 8 1

abbrev pub fail : List ℕ → ℕ → ℕ
fail b r = bits (payload (record_word b r 0)) 9 1

abbrev pub long : List ℕ → ℕ → ℕ
long b r = payload (record_word b r 1)

abbrev pub short : List ℕ → ℕ → ℕ
short b r = payload (record_word b r 2)

abbrev pub dvp_size : List ℕ → ℕ → ℕ
dvp_size b r = magnitude (record_word b r 3) (record_word b r 4) (record_word b r 5)

abbrev pub dvp_amount : List ℕ → ℕ → ℤ
dvp_amount b r = amount (record_word b r 3) (record_word b r 4) (record_word b r 5)

-- the words of a record: key; long and short; DVP
abbrev pub position_record : ℕ → ℕ → ℕ → ℤ → List ℕ
position_record p long short z = word 2 p ∷ word 4 long ∷ word 4 short ∷ amount_words z
