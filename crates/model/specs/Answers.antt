-- The number and the place of a refusal, and the two numbers that an answer is: 0 and the words written, or the refusal's number and place.
use Rattle.std.specs.Prelude.{ℕ, ◌+◌, ◌*◌, ◌^◌, Ok, Err}
use Rattle.model.specs.Outcomes.{Answer}
use Rattle.model.specs.declared.Check.{Check}
use Rattle.model.specs.declared.Check.TheVariants.{Bytes, DayHeader, DayLength, DayWords, Classes, Series, BatchHeader, BatchLength, BatchWords, Positions, Netting, Accounts}
use Rattle.model.specs.declared.BytesFault.TheVariants.{DayFile, BatchFile}
use Rattle.model.specs.declared.ClassFault.TheVariants.{ClassOrder, OffsetDiffers, PriceOrder}
use Rattle.model.specs.declared.SeriesFault.TheVariants.{ClassAbsent, SeriesOrder, BadType}
use Rattle.model.specs.declared.BatchWordsFault.TheVariants.{WrongKind, OutOfRange, MinusZero, NotWholeCents, CentsTooLarge}
use Rattle.model.specs.declared.PositionFault.TheVariants.{SeriesAbsent, ExercisedNonOption, FailNonSecurity, DvpNonSecurity}
use Rattle.model.specs.declared.NettingFault.TheVariants.{NetTooLarge, DvpTooLarge, NoSpace, BadDeposit, UnlikeMultipliers, BadTrades}
use Rattle.model.specs.declared.AccountsFault.TheVariants.{BadLengths, ShortResults}

abbrev pub number_of : Check → ℕ
number_of (Bytes DayFile p) = 1
number_of (Bytes BatchFile p) = 2
number_of (DayHeader f p) = 10
number_of (DayLength f p) = 11
number_of (DayWords f p) = 12
number_of (Classes ClassOrder p) = 13
number_of (Classes OffsetDiffers p) = 14
number_of (Classes PriceOrder p) = 18
number_of (Series ClassAbsent p) = 15
number_of (Series SeriesOrder p) = 16
number_of (Series BadType p) = 17
number_of (BatchHeader f p) = 20
number_of (BatchLength f p) = 21
number_of (BatchWords WrongKind p) = 22
number_of (BatchWords OutOfRange p) = 27
number_of (BatchWords MinusZero p) = 28
number_of (BatchWords NotWholeCents p) = 33
number_of (BatchWords CentsTooLarge p) = 34
number_of (Positions SeriesAbsent p) = 23
number_of (Positions ExercisedNonOption p) = 24
number_of (Positions FailNonSecurity p) = 25
number_of (Positions DvpNonSecurity p) = 26
number_of (Netting NetTooLarge p) = 30
number_of (Netting DvpTooLarge p) = 31
number_of (Netting NoSpace p) = 32
number_of (Netting BadDeposit p) = 50
number_of (Netting UnlikeMultipliers p) = 51
number_of (Netting BadTrades p) = 62
number_of (Check.Report f p) = 40
number_of (Accounts BadLengths p) = 60
number_of (Accounts ShortResults p) = 61

abbrev pub place_of : Check → ℕ
place_of (Bytes f p) = p
place_of (DayHeader f p) = p
place_of (DayLength f p) = p
place_of (DayWords f p) = p
place_of (Classes f p) = p
place_of (Series f p) = p
place_of (BatchHeader f p) = p
place_of (BatchLength f p) = p
place_of (BatchWords f p) = p
place_of (Positions f p) = p
place_of (Netting f p) = p
place_of (Check.Report f p) = p
place_of (Accounts f p) = p

abbrev pub status_of : Answer → ℕ
status_of (Ok n) = 0
status_of (Err k) = number_of k

abbrev pub value_of : Answer → ℕ
value_of (Ok n) = n
value_of (Err k) = place_of k

-- both in one number, as a C entry returns an answer
abbrev pub packed : Answer → ℕ
packed a = status_of a * 2 ^ 32 + value_of a
