-- The words of all accounts as the sum of their lengths.
use Rattle.std.proofs.Common.{◌≡◌, refl, ℕ, zero, suc, ◌+◌, List, [], ◌∷◌, length, arith}
use Rattle.std.specs.Prelude.{sum}
use Rattle.std.proofs.lemmas.List.Sums.{sum_by-cons}
use Rattle.model.specs.ManyAccounts.{words_before}

before_first : (n : ℕ) (l : List ℕ) (i : ℕ) → words_before (n ∷ l) (suc i) ≡ n + words_before l i
unfolding words_before
before_first n l zero = omega arith
before_first n l (suc i) = omega (arith, before_first n l i)

pub words_summed : (l : List ℕ) → sum l ≡ words_before l (length l)
unfolding words_before
words_summed [] = refl
words_summed (n ∷ l) = omega (arith, sum_by-cons (λ (x : ℕ). x) n l, words_summed l, before_first n l (length l))
