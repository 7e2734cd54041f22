-- The rows that rewriting a batch tries, beside those of a report: 31 and no other, as it holds no more positions than it has records.
use Rattle.std.specs.Prelude.{◌≡◌, refl, false, ℕ, ◌≤◌, ◌<◌, nat_abs, length, Option, Some, None, Ok, Err}
use Rattle.std.proofs.Math.Path.{sym, ap}
use Rattle.std.proofs.Common.{◌∙◌, arith, le-ltb, ltb-true, ltb-false}
use mathlib.Core.List.{List, [], ◌∷◌}
use Rattle.numbers.specs.Scan.{first_bad, first_at, first-before}
use Rattle.model.specs.declared.Check.TheVariants.{Netting}
use Rattle.model.specs.declared.NettingFault.TheVariants.{DvpTooLarge, NoSpace}
use Rattle.model.specs.Outcomes.{Verdict}
use Rattle.model.specs.Limits.{dvp_amount_limit, most_records}
use Rattle.model.specs.Rows.{tried, found_row}
use Rattle.model.specs.DayChecks.{day_check}
use Rattle.model.specs.Batch.{record_count, key}
use Rattle.model.specs.BatchChecks.{row20, batch_check}
use Rattle.model.specs.Netting.{net, dvp, netting_check}
use Rattle.model.specs.DepositChecks.{deposit_check}
use Rattle.model.specs.Calls.{verdict, Accepted}
use Rattle.model.specs.Rewriting.{held_records}
use Rattle.model.specs.RewritingChecks.{row31, row32, dvp_check, space_check, rewriting_check, rewrite_check, Rewritable}
use Rattle.model.proofs.Accepted.{plain_back, clear_back, batch_checked}
use Rattle.model.proofs.Cover.{no_deposits_pass}
use Rattle.model.proofs.Limits.{row20_count}
use Rattle.model.proofs.Verdicts.{◌then◌, failed_not, tried-passed, tried_pass}
use Rattle.corollaries.specs.FewHeld.{few_held}
use Rattle.corollaries.specs.Summed.{Summed, summed_of}
use Rattle.corollaries.specs.RewritingClaims.{FirstAbove}

pub never_32 : (b : List ℕ) → row20 b ≡ false → row32 b ≡ false
unfolding row32
never_32 b e = le-ltb most_records (length (held_records (net b) (dvp b))) (omega (arith, few_held b, row20_count b e))

-- row 31 finds the first record of a position
pub above_first : (b : List ℕ) (r : ℕ) → dvp_check b ≡ Err (Netting DvpTooLarge r) → FirstAbove b r
unfolding dvp_check row31
above_first b r = by (first_bad (row31 b) (record_count b)) refl
  where
    by : (f : Option ℕ) → first_bad (row31 b) (record_count b) ≡ f → found_row (Netting DvpTooLarge) f ≡ Err (Netting DvpTooLarge r) → FirstAbove b r
    by (Some i) q e =
        let s : i ≡ r = cc in
        let f : first_bad (row31 b) (record_count b) ≡ Some r = q ∙ ap Some s in
        let z = first_at (row31 b) (record_count b) r f in
        let above = ltb-true dvp_amount_limit (nat_abs (dvp b (key b r))) z.1 in
        let least : (k : ℕ) → k < r → nat_abs (dvp b (key b k)) ≤ dvp_amount_limit =
        λ k l. ltb-false dvp_amount_limit (nat_abs (dvp b (key b k))) (first-before (row31 b) (record_count b) r f k l)
        in
        record {
          below = z.0;
          above = above;
          first = λ k l w. let m : nat_abs (dvp b (key b r)) ≤ dvp_amount_limit = rw w at (least k l) in omega arith;
          earliest = least;
        }
    by None q e = failed_not (Netting DvpTooLarge r) (sym e)

-- the rows of rewriting beside those of a report: X are the rows of no deposits, S and P are 31 and 32
regroup : (D B N S P X : Verdict) → X ≡ Ok tt → (B ≡ Ok tt → P ≡ Ok tt)
    → tried (D ∷ B ∷ tried (N ∷ S ∷ P ∷ []) ∷ []) ≡ tried (tried (D ∷ B ∷ N ∷ X ∷ []) ∷ S ∷ [])
unfolding tried
regroup (Err k) B N S P X x p = refl
regroup (Ok _) (Err k) N S P X x p = refl
regroup (Ok _) (Ok _) (Err k) S P X x p = refl
regroup (Ok _) (Ok _) (Ok _) (Err k) P X x p = rw x
regroup (Ok _) (Ok _) (Ok _) (Ok _) P X x p = rw (x, p refl)

module _ (d b : List ℕ) where
  pub same_refusals : rewrite_check d b ≡ tried (verdict d b [] ∷ dvp_check b ∷ [])
  unfolding verdict rewrite_check rewriting_check space_check
  same_refusals =
      regroup (day_check d) (batch_check d b) (netting_check d b) (dvp_check b) (space_check b) (deposit_check d []) (no_deposits_pass d)
      (λ e. plain_back (Netting NoSpace) (row32 b) (never_32 b (batch_checked d b e).at20))

  pub passes : Accepted d b [] → dvp_check b ≡ Ok tt → Rewritable d b
  passes a e = same_refusals ∙ tried_pass _ (a then e then tt)

  pub rewritable_is : (x : List ℕ) → Accepted d b x → ((r : ℕ) → r < record_count b → row31 b r ≡ false) → Rewritable d b
  unfolding verdict dvp_check
  rewritable_is x a h = let z = tried-passed _ a in passes (tried_pass _ (z.0 then z.1.0 then z.1.1.0 then no_deposits_pass d then tt)) (clear_back _ _ _ h)

  module _ (e : Rewritable d b) where
    pub batch_of_lem : batch_check d b ≡ Ok tt
    unfolding rewrite_check
    batch_of_lem = (tried-passed _ e).1.0

    pub rewritable_summed : Summed d b
    unfolding rewrite_check
    rewritable_summed = let z = tried-passed _ e in summed_of d b z.0 (batch_checked d b batch_of_lem).records z.1.1.0

    pub rewritable_accepted : Accepted d b []
    rewritable_accepted = (tried-passed _ (sym same_refusals ∙ e)).0
