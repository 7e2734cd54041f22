-- A record is added to an account exactly where its own test passes: its words, its own position and the count of positions held. No other position has to be looked at.
use Rattle.std.specs.Prelude.{◌≡◌, Bool, true, false, not, ◌||◌, List, [], ◌∷◌, ℕ, ◌*◌, ◌≤◌, ℤ, nat_abs, length, is_ok, Ok, Err}
use Rattle.std.proofs.Math.Path.{refl, sym, ap, subst, fun_ext}
use Rattle.std.proofs.Common.{◌∙◌, true≢false, le-ltb, ltb-false}
use Rattle.std.proofs.Math.Decide.{ℕ_discrete}
use Rattle.numbers.specs.Chosen.{any_append}
use Rattle.numbers.specs.Lists.{any_of}
use Rattle.numbers.specs.Tests.{or_left, or_right}
use Rattle.model.specs.Outcomes.{Verdict}
use Rattle.model.specs.Limits.{position_limit, dvp_amount_limit, most_records}
use Rattle.model.specs.Words.{bits}
use Rattle.model.specs.DayFile.{multiplier}
use Rattle.model.specs.Batch.{record_words}
use Rattle.model.specs.Netting.{net, dvp}
use Rattle.model.specs.Locality.{records}
use Rattle.model.specs.Rewriting.{rewritten, rewriting, added}
use Rattle.model.specs.RewritingChecks.{add_check, Addable}
use Rattle.model.proofs.Added.{Parts}
use Rattle.model.proofs.GoodRecord.{bad, rows_list, list_rows}
use Rattle.model.proofs.NettingRows.{place_of_key, net_limited, netting_by, dvp_within, dvps_by}
use Rattle.model.proofs.Nets.{key_of}
use Rattle.corollaries.specs.AddedBatch.{added-records, net-added, dvp-added}
use Rattle.corollaries.specs.AddingRows.{whole_parts, add_parts, add_summed, addable_of}
use Rattle.corollaries.specs.RewritingRows.{rewritable_summed}
use Rattle.day_steps.specs.Kept.{Kept, summed_kept, kept_net, kept_dvp, kept_rewritable}
use Rattle.day_steps.specs.Step.{place_of, with_net, with_dvp, other_net, other_dvp, net_refused, dvp_refused, space_refused, step_refused}

module _ (d : List ℕ) (n v : ℕ → ℤ) (k : Kept d n v) (w : List ℕ) where
  abbrev a : List ℕ
  a = rewritten n v

  -- ---- the account with the record, whether it is accepted or not

  module _ (h : Parts a w) where
    net_is : net (added a w) ≡ with_net n w
    net_is = fun_ext (λ p. net-added a w h p ∙ (λ i. with_net (kept_net d n v k i) w p))

    dvp_is : dvp (added a w) ≡ with_dvp v w
    dvp_is = fun_ext (λ p. dvp-added a w h p ∙ (λ i. with_dvp (kept_dvp d n v k i) w p))

    both_good : any_of (bad d) (records (added a w)) ≡ (any_of (bad d) (records a) || any_of (bad d) (w ∷ []))
    both_good = ap (any_of (bad d)) (added-records a w h) ∙ any_append (bad d) (records a) (w ∷ [])

  abbrev words : Bool
  words = bad d w

  abbrev nets : Bool
  nets = net_refused d n v w

  abbrev dvps : Bool
  dvps = dvp_refused d n v w

  abbrev space : Bool
  space = space_refused d n v w

  own_place : bits (key_of w) 0 8 ≡ place_of w
  own_place = sym (place_of_key _ (key_of w) refl)

  -- ---- what can be added passes the test

  module _ (e : Addable d a w) where
    parts : Parts a w
    parts = add_parts d a w e

    after_net : net (added a w) ≡ with_net n w
    after_net = net_is parts

    after_dvp : dvp (added a w) ≡ with_dvp v w
    after_dvp = dvp_is parts

    own_passes : step_refused d n v w ≡ false
    unfolding step_refused any_of
    own_passes =
        let s = add_summed d a w e in
        let good = or_left words false (or_right (any_of (bad d) (records a)) (words || false) (sym (both_good parts) ∙ rows_list d (added a w) s.records)) in
        let net_limit = rw (after_net, own_place) at (net_limited d (added a w) s.netting (key_of w)) in
        let dvp_limit = rw after_dvp at (dvp_within (added a w) s.dvps (key_of w)) in
        let few = rw (after_net, after_dvp) at s.space in
        rw (good, le-ltb position_limit _ net_limit, le-ltb dvp_amount_limit _ dvp_limit, le-ltb most_records _ few)

    -- and is kept as the tables after it
    pub step_kept : Kept d (with_net n w) (with_dvp v w)
    step_kept =
        subst (λ (u : ℕ → ℤ). Kept d (with_net n w) u) after_dvp
        (subst (λ (u : ℕ → ℤ). Kept d u (dvp (added a w))) after_net (summed_kept d (added a w) (add_summed d a w e)))

    pub step_account : rewriting (added (rewritten n v) w) ≡ rewritten (with_net n w) (with_dvp v w)
    step_account = λ i. rewritten (after_net i) (after_dvp i)

  -- ---- what passes the test can be added

  module _ (six : length w ≡ record_words) (o : step_refused d n v w ≡ false) where
    whole : Parts a w
    whole = whole_parts d a w (kept_rewritable d n v k) six

    pub own_addable : Addable d (rewritten n v) w
    unfolding step_refused any_of
    own_addable =
        let r = or_right words (nets || (dvps || space)) o in
        let q = or_right nets (dvps || space) r in
        let good : any_of (bad d) (w ∷ []) ≡ false = rw (or_left words (nets || (dvps || space)) o) in
        addable_of d a w whole
        (record {
          day = k.day;
          records = list_rows d (added a w) (both_good whole ∙ (λ i. rows_list d a (rewritable_summed d a (kept_rewritable d n v k)).records i || good i));
          netting = netting_by d (added a w) (λ p. rw (net_is whole) (net_by p (ℕ_discrete (key_of w) p) (or_left nets (dvps || space) r)));
          dvps = dvps_by (added a w) (λ p. rw (dvp_is whole) (dvp_by p (ℕ_discrete (key_of w) p) (or_left dvps space q)));
          space = rw (net_is whole, dvp_is whole) (ltb-false most_records _ (or_right dvps space q));
        })
      where
        net_by : (p : ℕ) → Dec (key_of w ≡ p) → nets ≡ false → nat_abs (with_net n w p) * multiplier d (bits p 0 8) ≤ position_limit
        net_by p (yes e) z = subst (λ (q : ℕ). nat_abs (with_net n w q) * multiplier d (bits q 0 8) ≤ position_limit) e (rw own_place (ltb-false position_limit _ z))
        net_by p (no e) z = rw (other_net n v w p e) (k.table.net_limit p)

        dvp_by : (p : ℕ) → Dec (key_of w ≡ p) → dvps ≡ false → nat_abs (with_dvp v w p) ≤ dvp_amount_limit
        dvp_by p (yes e) z = subst (λ (q : ℕ). nat_abs (with_dvp v w q) ≤ dvp_amount_limit) e (ltb-false dvp_amount_limit _ z)
        dvp_by p (no e) z = rw (other_dvp n v w p e) (k.table.dvp_limit p)

  -- ---- so a step is applied exactly where its own test passes

  pub step_test : length w ≡ record_words → is_ok (add_check d (rewritten n v) w) ≡ not (step_refused d n v w)
  step_test six = by (add_check d a w) refl (step_refused d n v w) refl
    where
      by : (u : Verdict) → add_check d a w ≡ u → (t : Bool) → step_refused d n v w ≡ t → is_ok u ≡ not t
      by (Ok _) e false q = refl
      by (Ok _) e true q = absurd (true≢false (sym q ∙ own_passes e))
      by (Err c) e true q = refl
      by (Err c) e false q = absurd (true≢false (sym (ap is_ok (own_addable six q)) ∙ ap is_ok e))
