-- An amount in another edition, and the records of a batch with such amounts, as a loop writes them behind a header h. b is the batch, m the memory.
use Rattle.std.specs.Prelude.{◌≡◌, List, [], ◌∷◌, ◌++◌, ℕ, ◌+◌, ◌≤◌, ◌<◌, ◌^◌, ℤ, pos, ◌*ℤ◌, nat_abs, length, set}
use Rattle.std.specs.Int.Signed.{quot_z}
use Rattle.std.proofs.Math.Path.{sym, ap}
use Rattle.std.proofs.Common.{◌∙◌, arith, append-nil}
use Rattle.numbers.specs.Put.{put, put_one, put-put}
use Rattle.numbers.specs.Chosen.{joined, joined-append}
use Rattle.numbers.specs.Table.{tabulate, tabulate_next}
use Rattle.model.specs.Batch.{batch_words, dvp_amount}
use Rattle.model.specs.Cents.{cent, record_with}
use Rattle.model.proofs.Cents.{converted, converted_length}
use Rattle.cents.specs.declared.Edition.{Edition}
use Rattle.cents.specs.declared.Edition.TheVariants.{Cents, Units}

abbrev pub amount_in : Edition → ℤ → ℤ
amount_in Cents z = quot_z z (pos cent)
amount_in Units z = z *ℤ pos cent

-- amounts that three words hold
pub record Small (e : Edition) (b : List ℕ) (n : ℕ) : Type 0 where
  pub small : (r : ℕ) → r < n → nat_abs (amount_in e (dvp_amount b r)) < 2 ^ 63

module _ (e : Edition) (b : List ℕ) (h : ℕ) where
  abbrev pub record_in : ℕ → List ℕ
  record_in r = record_with b r (amount_in e (dvp_amount b r))

  -- the batch with the first n records
  abbrev pub batch_in : ℕ → List ℕ
  batch_in n = converted (amount_in e) b h n

  module _ (m : List ℕ) where
    pub header_written : 0 < length m → set m 0 h ≡ put 0 (batch_in 0) m
    unfolding joined tabulate
    header_written l = put_one m 0 h l

    pub record_written : (r : ℕ) → batch_words (r + 1) ≤ length m → put (batch_words r) (record_in r) (put 0 (batch_in r) m) ≡ put 0 (batch_in (r + 1)) m
    unfolding joined
    record_written r l =
        put-put 0 (batch_in r) (record_in r) m (batch_words r) (omega (arith, converted_length (amount_in e) b h r)) (omega arith)
        ∙ ap (λ (w : List ℕ). put 0 (h ∷ w) m)
        (ap (λ (w : List ℕ). joined (tabulate r record_in) ++ w) (sym (append-nil (record_in r)))
        ∙ sym (joined-append (tabulate r record_in) (record_in r ∷ []))
        ∙ ap joined (sym (tabulate_next r record_in)))
