-- U7 at work: what the two calls write and answer, and a full account with one record more.
use Rattle.std.specs.Prelude.{◌≡◌, refl, cond, List, [], ◌∷◌, ◌++◌, ℕ, ltb, eqb, ℤ, pos, length, replicate}
use Rattle.model.specs.Limits.{dvp_amount_limit}
use Rattle.model.specs.Batch.{batch_words}
use Rattle.model.specs.Netting.{position}
use Rattle.model.specs.Accounts.{Figure, all_computed, all_published, minus, batch_file, numbers_of}
use Rattle.model.specs.Rewriting.{rewritten}
use Rattle.model.specs.RewritingCalls.{rewrite_answer, rewrite_after, add_answer, add_after}
use Rattle.model.specs.RewritingFigures.{day, opened, exercised, fail, seven, four, large}
use Rattle.model.specs.Computing.{everything}

-- the four records over the front of the memory
pub seven-written : rewrite_after day seven (replicate 27 7) ≡ four ++ (7 ∷ 7 ∷ [])
unfolding everything
seven-written = refl

-- what closes a position takes its record away
pub closed : add_after day four (opened 0 0 3 (pos 0)) (replicate 19 7) ≡ batch_file 3 (exercised 0 1 0 ++ (opened 1 0 0 (pos 100000) ++ fail 1 0 2 (pos 0)))
unfolding everything
closed = refl

-- answers: 40 with the words needed, and the largest summed DVP of either sign
abbrev answers : List Figure
answers =
    record { computed = numbers_of (rewrite_answer day seven 25); published = pos 0 ∷ pos 25 ∷ [] }
    ∷ record { computed = numbers_of (rewrite_answer day seven 24); published = pos 40 ∷ pos 25 ∷ [] }
    ∷ record { computed = numbers_of (rewrite_answer day (large (pos dvp_amount_limit) (pos 0)) 19); published = pos 0 ∷ pos 19 ∷ [] }
    ∷ record { computed = numbers_of (rewrite_answer day (large (minus dvp_amount_limit) (pos 0)) 19); published = pos 0 ∷ pos 19 ∷ [] }
    ∷ record { computed = numbers_of (add_answer day four (opened 2 1 0 (pos 0)) 30); published = pos 40 ∷ pos 31 ∷ [] }
    ∷ []

pub answers_agree : all_computed answers ≡ all_published answers
unfolding everything
answers_agree = refl

-- ---- 256 shares long 1 each, and one position that is other: how long the rewriting is

abbrev one_each : ℕ → ℤ → ℕ → ℤ
one_each p z q = cond (eqb p q) z (cond (ltb q 256) (minus 1) (pos 0))

abbrev words_with : ℕ → ℤ → ℕ
words_with p z = length (rewritten (one_each p z) (λ q. pos 0))

-- share 3 long 2; closed; long 1 as fail besides, 257 records; long 1 and short 1 as fail, no record more
pub full_lengths : words_with (position 0 0 3) (minus 2) ∷ words_with (position 0 0 3) (pos 0) ∷ words_with (position 1 0 3) (minus 1) ∷ words_with (position 1 0 3) (pos 0) ∷ []
    ≡ 1537 ∷ 1531 ∷ batch_words 257 ∷ 1537 ∷ []
unfolding everything
full_lengths = refl
