-- The day file: its fields by class c, series s and point k (0 to 9 for D5 .. D1, U1 .. U5). d is the list of its words.
use Rattle.std.specs.Prelude.{Bool, ◌||◌, List, ℕ, ◌+◌, ◌*◌, eqb, get_or, Option, unwrap_or}
use Rattle.numbers.specs.Scan.{first_where}
use Rattle.model.specs.Words.{payload, bits}

-- ---- the header

abbrev pub day_header : List ℕ → ℕ
day_header d = get_or d 0 0

abbrev pub class_count : List ℕ → ℕ
class_count d = bits (payload (day_header d)) 0 7

abbrev pub series_count : List ℕ → ℕ
series_count d = bits (payload (day_header d)) 7 9

-- ---- the layout: the header, the classes, the series

-- the words of a class, and of a series
abbrev pub class_words : ℕ
class_words = 20

abbrev pub series_words : ℕ
series_words = 15

-- where class c stands
abbrev pub class_at : ℕ → ℕ
class_at c = 1 + class_words * c

-- the words of a day file of c classes and s series
abbrev pub day_words : ℕ → ℕ → ℕ
day_words c s = class_at c + series_words * s

-- where series s stands
abbrev pub series_at : List ℕ → ℕ → ℕ
series_at d s = day_words (class_count d) s

-- ---- a class

abbrev pub class_word : List ℕ → ℕ → ℕ → ℕ
class_word d c i = get_or d (class_at c + i) 0

abbrev pub group : List ℕ → ℕ → ℕ
group d c = bits (payload (class_word d c 0)) 0 5

abbrev pub class_number : List ℕ → ℕ → ℕ
class_number d c = bits (payload (class_word d c 0)) 5 6

abbrev pub underlying : List ℕ → ℕ → ℕ
underlying d c = payload (class_word d c 1)

abbrev pub spot_rate : List ℕ → ℕ → ℕ
spot_rate d c = payload (class_word d c 2)

abbrev pub non_spot_rate : List ℕ → ℕ → ℕ
non_spot_rate d c = payload (class_word d c 3)

abbrev pub option_rate : List ℕ → ℕ → ℕ
option_rate d c = payload (class_word d c 4)

abbrev pub future_rate : List ℕ → ℕ → ℕ
future_rate d c = payload (class_word d c 5)

abbrev pub equity_rate : List ℕ → ℕ → ℕ
equity_rate d c = payload (class_word d c 6)

abbrev pub warrant_rate : List ℕ → ℕ → ℕ
warrant_rate d c = payload (class_word d c 7)

abbrev pub rights_rate : List ℕ → ℕ → ℕ
rights_rate d c = payload (class_word d c 8)

-- in hundredths of a percent
abbrev pub offset : List ℕ → ℕ → ℕ
offset d c = payload (class_word d c 9)

abbrev pub projected : List ℕ → ℕ → ℕ → ℕ
projected d c k = payload (class_word d c (10 + k))

-- ---- a series

abbrev pub series_word : List ℕ → ℕ → ℕ → ℕ
series_word d s i = get_or d (series_at d s + i) 0

abbrev pub series_key : List ℕ → ℕ → ℕ
series_key d s = payload (series_word d s 0)

abbrev pub serial : List ℕ → ℕ → ℕ
serial d s = bits (series_key d s) 0 7

abbrev pub expiry : List ℕ → ℕ → ℕ
expiry d s = bits (series_key d s) 7 12

abbrev pub series_type : List ℕ → ℕ → ℕ
series_type d s = bits (series_key d s) 19 4

abbrev pub series_class_number : List ℕ → ℕ → ℕ
series_class_number d s = bits (series_key d s) 23 6

abbrev pub multiplier : List ℕ → ℕ → ℕ
multiplier d s = payload (series_word d s 1)

abbrev pub strike : List ℕ → ℕ → ℕ
strike d s = payload (series_word d s 2)

-- the strike word of an expired future (U9)
abbrev pub delivery_price : List ℕ → ℕ → ℕ
delivery_price = strike

abbrev pub closing : List ℕ → ℕ → ℕ
closing d s = payload (series_word d s 3)

-- the short option adjustment (U3)
abbrev pub adjustment : List ℕ → ℕ → ℕ
adjustment d s = payload (series_word d s 4)

abbrev pub theoretical : List ℕ → ℕ → ℕ → ℕ
theoretical d s k = payload (series_word d s (5 + k))

-- ---- types

-- an open future
abbrev pub is_future : ℕ → Bool
is_future t = eqb t 1

abbrev pub is_call : ℕ → Bool
is_call t = eqb t 2

abbrev pub is_put : ℕ → Bool
is_put t = eqb t 3

abbrev pub is_option : ℕ → Bool
is_option t = is_call t || is_put t

abbrev pub is_equity : ℕ → Bool
is_equity t = eqb t 4

abbrev pub is_warrant : ℕ → Bool
is_warrant t = eqb t 5

abbrev pub is_rights : ℕ → Bool
is_rights t = eqb t 6

abbrev pub is_security : ℕ → Bool
is_security t = is_equity t || is_warrant t || is_rights t

-- an expired stock future that awaits delivery (U9)
abbrev pub is_expired : ℕ → Bool
is_expired t = eqb t 8

-- an open or an expired future, or an option
abbrev pub is_derivative : ℕ → Bool
is_derivative t = is_future t || is_expired t || is_option t

-- marked to market: a security or an expired future
abbrev pub is_marked : ℕ → Bool
is_marked t = is_security t || is_expired t

-- ---- a class by its number

-- the class with number n, and its place (the number of classes where there is none)
abbrev pub class_with : List ℕ → ℕ → Option ℕ
class_with d n = first_where (λ c. eqb (class_number d c) n) (class_count d)

unfoldable pub class_place : List ℕ → ℕ → ℕ
class_place d n = unwrap_or (class_with d n) (class_count d)

-- the class of a series: the one with the series' class number
unfoldable pub found_class : List ℕ → ℕ → Option ℕ
found_class d s = class_with d (series_class_number d s)

unfoldable pub series_class : List ℕ → ℕ → ℕ
series_class d s = unwrap_or (found_class d s) (class_count d)

unfoldable pub series_group : List ℕ → ℕ → ℕ
series_group d s = group d (series_class d s)
