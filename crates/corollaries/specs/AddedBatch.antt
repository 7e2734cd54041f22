-- A batch with a record w as its last: its records, its nets and DVPs, and that it passes rows 20 and 21.
use Rattle.std.specs.Prelude.{◌≡◌, false, ℕ, ◌+◌, ◌<◌, ◌+ℤ◌, length, drop}
use Rattle.std.proofs.Math.Path.{refl, sym, ap, fun_ext}
use Rattle.std.proofs.Common.{◌∙◌, arith, length-append}
use mathlib.Core.List.{List, [], ◌∷◌, ◌++◌, append-nil}
use Rattle.std.proofs.Math.IntN.{+ℤ_idr}
use Rattle.numbers.specs.Perms.{sum_of}
use Rattle.numbers.specs.Table.{length-tabulate}
use Rattle.numbers.specs.Chosen.{joined, joined-append, Each, none, more, each_append, each-tabulate, sum-append}
use Rattle.model.specs.Limits.{most_records}
use Rattle.model.specs.Words.{payload, word}
use Rattle.model.specs.Batch.{record_count, record_words}
use Rattle.model.specs.BatchChecks.{row20, row21}
use Rattle.model.specs.Netting.{net, dvp}
use Rattle.model.specs.Locality.{record_at, records}
use Rattle.model.specs.Rewriting.{added}
use Rattle.model.proofs.Added.{Parts}
use Rattle.model.proofs.Limits.{row20_count, row21-length}
use Rattle.model.proofs.Nets.{net_of, dvp_of, net-sum, dvp-sum}
use Rattle.model.proofs.WordsBack.{payload-word}
use Rattle.corollaries.specs.Batches.{body_is, records_back, made_20, made_21}

module _ (b w : List ℕ) (h : Parts b w) where
  abbrev more_records : List (List ℕ)
  more_records = records b ++ (w ∷ [])

  counted : length more_records ≡ record_count b + 1
  counted = length-append (records b) (w ∷ []) ∙ ap (λ (n : ℕ). n + 1) (length-tabulate (record_count b) (record_at b))

  each : Each record_words more_records
  each = each_append (each-tabulate record_words (record_count b) (record_at b) (λ i. refl)) (more h.six none)

  added_is : added b w ≡ word 1 (record_count b + 1) ∷ joined more_records
  unfolding added joined
  added_is =
      ap (λ (l : List ℕ). word 1 (record_count b + 1) ∷ l)
      (ap (λ (l : List ℕ). l ++ w) (body_is b (row21-length b h.at21))
      ∙ ap (λ (l : List ℕ). joined (records b) ++ l) (sym (append-nil w))
      ∙ sym (joined-append (records b) (w ∷ [])))

  -- the header counts them
  headed : payload (word 1 (record_count b + 1)) ≡ length more_records
  headed = payload-word 1 (record_count b + 1) (omega (arith, row20_count b h.at20)) ∙ sym counted

  pub added-records : records (added b w) ≡ more_records
  added-records = ap records added_is ∙ records_back (word 1 (record_count b + 1)) more_records each headed

  pub net-added : (p : ℕ) → net (added b w) p ≡ net b p +ℤ net_of p w
  unfolding sum_of
  net-added p =
      net-sum (added b w) p ∙ ap (sum_of (net_of p)) added-records ∙ sum-append (net_of p) (records b) (w ∷ [])
      ∙ (λ i. sym (net-sum b p) i +ℤ +ℤ_idr (net_of p w) i)

  pub dvp-added : (p : ℕ) → dvp (added b w) p ≡ dvp b p +ℤ dvp_of p w
  unfolding sum_of
  dvp-added p =
      dvp-sum (added b w) p ∙ ap (sum_of (dvp_of p)) added-records ∙ sum-append (dvp_of p) (records b) (w ∷ [])
      ∙ (λ i. sym (dvp-sum b p) i +ℤ +ℤ_idr (dvp_of p w) i)

  pub no20 : record_count b < most_records → row20 (added b w) ≡ false
  unfolding added
  no20 l = made_20 (record_count b + 1) (drop 1 b ++ w) (omega arith)

  pub no21 : row21 (added b w) ≡ false
  no21 = ap row21 added_is ∙ made_21 (word 1 (record_count b + 1)) more_records each headed

-- to batches of the same nets, and of the same DVPs
module _ (b c w : List ℕ) (h : Parts b w) (k : Parts c w) where
  pub same_net_added : net b ≡ net c → net (added b w) ≡ net (added c w)
  same_net_added x = fun_ext (λ p. net-added b w h p ∙ (λ i. x i p +ℤ net_of p w) ∙ sym (net-added c w k p))

  pub same_dvp_added : dvp b ≡ dvp c → dvp (added b w) ≡ dvp (added c w)
  same_dvp_added y = fun_ext (λ p. dvp-added b w h p ∙ (λ i. y i p +ℤ dvp_of p w) ∙ sym (dvp-added c w k p))
