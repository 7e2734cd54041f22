-- A test of the words of a batch, by index and by record: word j of record r has index batch_words r + j.
use mathlib.Core.Path.{◌≡◌, refl, sym, ◌∙◌}
use mathlib.Core.Bool.{Bool, false}
use Prim.Native.Nat.{ℕ, zero, suc, ◌+◌, ◌<◌}
use native.Mathlib.Omega.{arith}
use borrow.Author.Tests.{lt-ltb}
use lib.Dec.{ltb}
use Rattle.numbers.specs.Tests.{and_false}
use Rattle.model.specs.Batch.{record_words, batch_words, record_of, field_of}
use Rattle.model.specs.BatchChecks.{at_word}

module _ (t : ℕ → ℕ → Bool) where
  pub at_word_lem : (r j : ℕ) → j < record_words → at_word t (batch_words r + j) ≡ t r j
  unfolding at_word
  at_word_lem r j h =
      let p : record_of (batch_words r + j) ≡ r = omega arith in
      let q : field_of (batch_words r + j) ≡ j = omega arith in
      rw (lt-ltb 0 (batch_words r + j) (omega arith), p, q)

  -- no word of n records, by record, and back
  module _ (n : ℕ) where
    pub words_clear : ((i : ℕ) → i < batch_words n → at_word t i ≡ false) → (r j : ℕ) → r < n → j < record_words → t r j ≡ false
    words_clear h r j p q = sym (at_word_lem r j q) ∙ h (batch_words r + j) (omega arith)

    pub words_back : ((r j : ℕ) → r < n → j < record_words → t r j ≡ false) → (i : ℕ) → i < batch_words n → at_word t i ≡ false
    unfolding at_word
    words_back h zero l = refl
    words_back h (suc k) l = rw (h (record_of (suc k)) (field_of (suc k)) (omega arith) (omega arith)) (and_false (ltb 0 (suc k)))
