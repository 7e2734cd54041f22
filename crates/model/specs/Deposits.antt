-- U5, the deposits: two words each, without kind bits. x is the list of their words, i a deposit. Words in quotes are the request's.
use Rattle.std.specs.Prelude.{List, ℕ, ◌+◌, ◌*◌, ◌/◌, eqb, length, get_or}
use Rattle.numbers.specs.Definitions.{sum_n_where}
use Rattle.model.specs.DayFile.{class_place}

-- "each two words": the words of a deposit, and the whole deposits of a list
abbrev pub deposit_words : ℕ
deposit_words = 2

abbrev pub deposit_count : List ℕ → ℕ
deposit_count x = length x / deposit_words

-- "a class number"
abbrev pub named_number : List ℕ → ℕ → ℕ
named_number x i = get_or x (deposit_words * i) 0

-- "a number of shares"
abbrev pub shares : List ℕ → ℕ → ℕ
shares x i = get_or x (deposit_words * i + 1) 0

-- the shares deposited of class c; accepted deposits name it once at most
unfoldable pub shares_of : List ℕ → List ℕ → ℕ → ℕ
shares_of d x c = sum_n_where (deposit_count x) (λ i. eqb (class_place d (named_number x i)) c) (shares x)
