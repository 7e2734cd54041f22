-- U5, the checks of the deposits: rows 50 and 51, between 30 and 40. x is the list of their words, d the day file's, i a deposit. Words in quotes are the request's.
use Rattle.std.specs.Prelude.{Bool, not, ◌&&◌, ◌||◌, List, [], ◌∷◌, ℕ, ◌%◌, ltb, eqb, length, is_some}
use Rattle.numbers.specs.Scan.{any_below}
use Rattle.model.specs.declared.Check.TheVariants.{Netting}
use Rattle.model.specs.declared.NettingFault.TheVariants.{BadDeposit, UnlikeMultipliers}
use Rattle.model.specs.Outcomes.{Verdict}
use Rattle.model.specs.Limits.{shares_limit}
use Rattle.model.specs.Rows.{tried, plain_row, record_row}
use Rattle.model.specs.DayFile.{series_count, multiplier, class_with, class_place}
use Rattle.model.specs.Deposits.{deposit_words, deposit_count, named_number, shares}
use Rattle.model.specs.Steps.Cover.{coverable_of}

-- "an odd number of words": they are not whole deposits
unfoldable pub odd_words : List ℕ → Bool
odd_words x = ltb 0 (length x % deposit_words)

-- "a class that is unknown or was named by an earlier deposit, or more shares than the limit"
unfoldable pub row50 : List ℕ → List ℕ → ℕ → Bool
row50 d x i =
    not (is_some (class_with d (named_number x i)))
    || any_below i (λ j. eqb (named_number x j) (named_number x i))
    || ltb shares_limit (shares x i)

-- two series of class c that deposits cover have "unlike multipliers": s, and an earlier t
unfoldable pub unlike : List ℕ → ℕ → Bool
unlike d c =
    any_below (series_count d)
    (λ s. coverable_of d c s && any_below s (λ t. coverable_of d c t && not (eqb (multiplier d t) (multiplier d s))))

-- "a named class whose futures in the day file have unlike multipliers"
unfoldable pub row51 : List ℕ → List ℕ → ℕ → Bool
row51 d x i = unlike d (class_place d (named_number x i))

unfoldable pub deposit_check : List ℕ → List ℕ → Verdict
deposit_check d x =
    tried
    (plain_row (Netting BadDeposit) (odd_words x)
    ∷ record_row (Netting BadDeposit) (row50 d x) (deposit_count x)
    ∷ record_row (Netting UnlikeMultipliers) (row51 d x) (deposit_count x)
    ∷ [])
