-- What the check of a day file gives: its words, or the refusal.
use Rattle.std.specs.Prelude.{◌≡◌, List, ℕ, Err, Result}
use Rattle.std.specs.Result.{ForOk, ForErr}
use Rattle.model.specs.declared.Check.{Check}
use Rattle.model.specs.DayChecks.{day_check}
use Rattle.classes.specs.declared.day.CheckedDay.{CheckedDay}

abbrev pub CheckGives : List ℕ → Result CheckedDay Check → Type 0
CheckGives d r = ForOk r (λ day. day.words.now ≡ d) × ForErr r (λ k. day_check d ≡ Err k)
