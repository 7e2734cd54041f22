-- A trade as a batch of one record: rows 22 to 28; and what is held of one position.
use Rattle.std.specs.Prelude.{◌≡◌, Bool, true, false, ◌||◌, cond, List, ℕ, ◌≤◌, ℤ, is_err, Ok, Err}
use Rattle.std.proofs.Math.Path.{refl, sym, ap}
use Rattle.std.proofs.Common.{◌∙◌, true≢false, arith}
use Rattle.numbers.specs.Lists.{any_of}
use Rattle.numbers.specs.Table.{tabulate}
use Rattle.numbers.specs.Tests.{or_false}
use Rattle.model.specs.Outcomes.{Verdict}
use Rattle.model.specs.Batch.{record_count}
use Rattle.model.specs.BatchChecks.{word_check, position_check}
use Rattle.model.specs.Steps.Positions.{not_zero}
use Rattle.model.specs.Locality.{record_at, records}
use Rattle.model.proofs.Accepted.{RecordRows, words_pass, positions_pass, records_checked}
use Rattle.model.proofs.GoodRecord.{bad, rows_list, list_rows}

-- 1 where net or DVP is not zero, else 0
abbrev pub held_number : ℤ → ℤ → ℕ
held_number net dvp = cond (not_zero net || not_zero dvp) 1 0

pub held_one_most : (net dvp : ℤ) → held_number net dvp ≤ 1
held_one_most net dvp = by (not_zero net || not_zero dvp)
  where
    by : (t : Bool) → cond t 1 0 ≤ 1
    by true = omega arith
    by false = omega arith

module _ (d b : List ℕ) (e : record_count b ≡ 1) where
  -- the rows of its records are those of the one
  one_record : any_of (bad d) (records b) ≡ bad d (record_at b 0)
  unfolding tabulate any_of
  one_record = ap (λ n. any_of (bad d) (tabulate n (record_at b))) e ∙ or_false (bad d (record_at b 0))

  pub one_rows : bad d (record_at b 0) ≡ false → RecordRows d b
  one_rows f = list_rows d b (one_record ∙ f)

  pub one_bad : (is_err (word_check b) || is_err (position_check d b)) ≡ bad d (record_at b 0)
  one_bad = by (word_check b) refl (position_check d b) refl (bad d (record_at b 0)) refl
    where
      passes : (v : Verdict) → v ≡ Ok tt → is_err v ≡ false
      passes v p = ap is_err p

      by : (v : Verdict) → word_check b ≡ v → (u : Verdict) → position_check d b ≡ u → (t : Bool) → bad d (record_at b 0) ≡ t → (is_err v || is_err u) ≡ t
      by (Ok _) p (Ok _) q false f = refl
      by (Ok _) p (Ok _) q true f = absurd (true≢false (sym f ∙ sym one_record ∙ rows_list d b (records_checked d b p q)))
      by (Ok _) p (Err k) q true f = refl
      by (Ok _) p (Err k) q false f = sym (sym (passes (position_check d b) (positions_pass d b (one_rows f))) ∙ ap is_err q)
      by (Err k) p u q true f = refl
      by (Err k) p u q false f = sym (sym (passes (word_check b) (words_pass d b (one_rows f))) ∙ ap is_err p)
