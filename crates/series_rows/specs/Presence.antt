-- The class numbers of the classes below n, as a table of flags.
use Rattle.std.specs.Prelude.{◌≡◌, refl, Bool, true, false, not, List, ℕ, ◌+◌, get_or, set, replicate}
use Rattle.std.proofs.Common.{ap, ◌∙◌, arith}
use Rattle.numbers.specs.Flags.{flag, flags, flags-none, flags-set, flag-key}
use Rattle.numbers.specs.Table.{get_or-tabulate}
use Rattle.model.specs.DayFile.{class_count, class_number, series_class_number, found_class}
use Rattle.model.specs.DayChecks.{row15}

-- class numbers have six bits
abbrev numbers : ℕ
numbers = 64

abbrev pub presence : List ℕ → ℕ → List Bool
presence d n = flags numbers (class_number d) (λ c. true) n

pub none_present : (d : List ℕ) → replicate numbers false ≡ presence d 0
none_present d = flags-none numbers (class_number d) (λ c. true)

-- one class more
pub more_present : (d : List ℕ) (n : ℕ) → set (presence d n) (class_number d n) true ≡ presence d (n + 1)
more_present d n = flags-set numbers (class_number d) (λ c. true) n (omega arith) refl

pub absent : (d : List ℕ) (s : ℕ) → not (get_or (presence d (class_count d)) (series_class_number d s) false) ≡ row15 d s
unfolding row15 found_class
absent d s =
    ap not
    (get_or-tabulate numbers (flag (class_number d) (λ c. true) (class_count d)) (series_class_number d s) false (omega arith) ∙ flag-key (class_number d) (class_count d) (series_class_number d s))
