-- The types by their numbers, and what the model's tests of a number say of a type.
use Rattle.std.specs.Prelude.{◌≡◌, refl, ℕ, zero, suc, ◌+◌, ◌<◌, cond, eqb, Result, Ok, Err, List, [], ◌∷◌, get_or}
use Rattle.std.proofs.Common.{arith}
use Rattle.series_types.specs.declared.SeriesType.{SeriesType}
use Rattle.series_types.specs.declared.SeriesType.TheVariants.{Future, Call, Put, Equity, Warrant, Rights, ExpiredFuture}
use Rattle.series_types.specs.declared.UnknownType.{UnknownType}

abbrev pub type_number : SeriesType → ℕ
type_number Future = 1
type_number Call = 2
type_number Put = 3
type_number Equity = 4
type_number Warrant = 5
type_number Rights = 6
type_number ExpiredFuture = 8

-- the type with a number, where there is one
abbrev pub read_type : ℕ → Result SeriesType UnknownType
read_type n =
    cond (eqb n 1) (Ok Future)
    (cond (eqb n 2) (Ok Call)
    (cond (eqb n 3) (Ok Put)
    (cond (eqb n 4) (Ok Equity)
    (cond (eqb n 5) (Ok Warrant)
    (cond (eqb n 6) (Ok Rights)
    (cond (eqb n 8) (Ok ExpiredFuture) (Err (record { number = n }))))))))

-- those that have a minimum, in the order of their numbers
abbrev pub with_minimum : List SeriesType
with_minimum = Future ∷ Call ∷ Put ∷ Equity ∷ Warrant ∷ Rights ∷ []

pub number_at : (k : ℕ) → k < 6 → type_number (get_or with_minimum k Future) ≡ k + 1
number_at zero h = refl
number_at (suc zero) h = refl
number_at (suc (suc zero)) h = refl
number_at (suc (suc (suc zero))) h = refl
number_at (suc (suc (suc (suc zero)))) h = refl
number_at (suc (suc (suc (suc (suc zero))))) h = refl
number_at (suc (suc (suc (suc (suc (suc k)))))) h = absurd (omega arith)
