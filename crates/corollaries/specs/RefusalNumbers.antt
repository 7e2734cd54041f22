-- Every refusal has a number, and none is 0.
use Rattle.std.specs.Prelude.{◌<◌}
use Rattle.std.proofs.Common.{arith}
use Rattle.model.specs.declared.Check.{Check}
use Rattle.model.specs.declared.Check.TheVariants.{Bytes, DayHeader, DayLength, DayWords, Classes, Series, BatchHeader, BatchLength, BatchWords, Positions, Netting, Accounts}
use Rattle.model.specs.declared.BytesFault.TheVariants.{DayFile, BatchFile}
use Rattle.model.specs.declared.ClassFault.TheVariants.{ClassOrder, OffsetDiffers, PriceOrder}
use Rattle.model.specs.declared.SeriesFault.TheVariants.{ClassAbsent, SeriesOrder, BadType}
use Rattle.model.specs.declared.BatchWordsFault.TheVariants.{WrongKind, OutOfRange, MinusZero, NotWholeCents, CentsTooLarge}
use Rattle.model.specs.declared.PositionFault.TheVariants.{SeriesAbsent, ExercisedNonOption, FailNonSecurity, DvpNonSecurity}
use Rattle.model.specs.declared.NettingFault.TheVariants.{NetTooLarge, DvpTooLarge, NoSpace, BadDeposit, UnlikeMultipliers, BadTrades}
use Rattle.model.specs.declared.AccountsFault.TheVariants.{BadLengths, ShortResults}
use Rattle.model.specs.Answers.{number_of}

pub numbered : (k : Check) → (0 < number_of k) × (number_of k < 100)
numbered (Bytes DayFile p) = (omega arith, omega arith)
numbered (Bytes BatchFile p) = (omega arith, omega arith)
numbered (DayHeader f p) = (omega arith, omega arith)
numbered (DayLength f p) = (omega arith, omega arith)
numbered (DayWords f p) = (omega arith, omega arith)
numbered (Classes ClassOrder p) = (omega arith, omega arith)
numbered (Classes OffsetDiffers p) = (omega arith, omega arith)
numbered (Classes PriceOrder p) = (omega arith, omega arith)
numbered (Series ClassAbsent p) = (omega arith, omega arith)
numbered (Series SeriesOrder p) = (omega arith, omega arith)
numbered (Series BadType p) = (omega arith, omega arith)
numbered (BatchHeader f p) = (omega arith, omega arith)
numbered (BatchLength f p) = (omega arith, omega arith)
numbered (BatchWords WrongKind p) = (omega arith, omega arith)
numbered (BatchWords OutOfRange p) = (omega arith, omega arith)
numbered (BatchWords MinusZero p) = (omega arith, omega arith)
numbered (BatchWords NotWholeCents p) = (omega arith, omega arith)
numbered (BatchWords CentsTooLarge p) = (omega arith, omega arith)
numbered (Positions SeriesAbsent p) = (omega arith, omega arith)
numbered (Positions ExercisedNonOption p) = (omega arith, omega arith)
numbered (Positions FailNonSecurity p) = (omega arith, omega arith)
numbered (Positions DvpNonSecurity p) = (omega arith, omega arith)
numbered (Netting NetTooLarge p) = (omega arith, omega arith)
numbered (Netting DvpTooLarge p) = (omega arith, omega arith)
numbered (Netting NoSpace p) = (omega arith, omega arith)
numbered (Netting BadDeposit p) = (omega arith, omega arith)
numbered (Netting UnlikeMultipliers p) = (omega arith, omega arith)
numbered (Netting BadTrades p) = (omega arith, omega arith)
numbered (Check.Report f p) = (omega arith, omega arith)
numbered (Accounts BadLengths p) = (omega arith, omega arith)
numbered (Accounts ShortResults p) = (omega arith, omega arith)
