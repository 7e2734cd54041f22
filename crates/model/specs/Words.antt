-- Words: kind, payload and bits, and an amount as three words.
use Rattle.std.specs.Prelude.{Bool, not, ◌||◌, cond, List, [], ◌∷◌, ℕ, ◌+◌, ◌*◌, ◌/◌, ◌%◌, ◌^◌, ltb, eqb, ℤ, pos, negsuc, neg_ℤ, nat_abs}
use Rattle.model.specs.Limits.{price_limit}

-- the top 3 bits of a word, and the low 29
abbrev pub kind : ℕ → ℕ
kind w = w / 2 ^ 29

abbrev pub payload : ℕ → ℕ
payload w = w % 2 ^ 29

-- the largest payload, for a word without spare bits
abbrev pub payload_limit : ℕ
payload_limit = 536870911

-- n bits of p, from bit i on
abbrev pub bits : ℕ → ℕ → ℕ → ℕ
bits p i n = p / 2 ^ i % 2 ^ n

-- the word of a kind and a payload
abbrev pub word : ℕ → ℕ → ℕ
word k p = k * 2 ^ 29 + p

-- a word has a wrong kind or a payload above its limit
abbrev pub bad_word : ℕ → ℕ → ℕ → Bool
bad_word w k limit = not (eqb (kind w) k) || ltb limit (payload w)

-- a price or rate: kind 3, 0 to 500,000,000
abbrev pub bad_price : ℕ → Bool
bad_price w = bad_word w 3 price_limit

-- an amount's magnitude and sign bit, from its three words
abbrev pub magnitude : ℕ → ℕ → ℕ → ℕ
magnitude u v w = payload u % 2 ^ 5 * 2 ^ 58 + payload v * 2 ^ 29 + payload w

abbrev pub negative : ℕ → ℕ
negative u = bits (payload u) 28 1

-- the amount of three words
abbrev pub amount : ℕ → ℕ → ℕ → ℤ
amount u v w = cond (eqb (negative u) 1) (neg_ℤ (pos (magnitude u v w))) (pos (magnitude u v w))

-- the three words of an amount: its sign with the top five bits of its magnitude, the next 29 bits, the low 29
abbrev pub sign_bit : ℤ → ℕ
sign_bit (pos n) = 0
sign_bit (negsuc n) = 2 ^ 28

abbrev pub high_word : ℤ → ℕ
high_word z = word 5 (sign_bit z + nat_abs z / 2 ^ 58)

abbrev pub middle_word : ℤ → ℕ
middle_word z = word 6 (nat_abs z / 2 ^ 29 % 2 ^ 29)

abbrev pub low_word : ℤ → ℕ
low_word z = word 6 (nat_abs z % 2 ^ 29)

abbrev pub amount_words : ℤ → List ℕ
amount_words z = high_word z ∷ middle_word z ∷ low_word z ∷ []
