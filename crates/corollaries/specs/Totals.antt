-- The totals of an accepted report, read from its words: each book's is the sum of its lines' margins, the account's is the sum of the two, and none is below 0. No residual credit enters.
use Rattle.std.specs.Prelude.{◌≡◌, Bool, true, false, cond, List, ◌++◌, ℕ, zero, suc, ◌≤◌, ◌<◌, ℤ, pos, ◌+ℤ◌, length, drop, ◌≤ℤ◌}
use Rattle.std.proofs.Math.Path.{sym}
use Rattle.std.proofs.Common.{subst, ◌∙◌, arith}
use Rattle.numbers.specs.Extremes.{max-zero}
use Rattle.numbers.specs.Line.{line, add-line}
use Rattle.numbers.specs.Sums.{sum_to, sum_to_ext}
use Rattle.model.specs.Netting.{net, dvp}
use Rattle.model.specs.Steps.Lines.{has_line, total}
use Rattle.model.specs.Steps.Margin.{group_sum, margin}
use Rattle.model.specs.Calls.{Accepted, net_after, needed, memory_after}
use Rattle.model.specs.Report.{report_words}
use Rattle.model.specs.Reading.{total_in, amount_in, margin_in}
use Rattle.model.proofs.Read.{margin_read, total_read, adds}
use Rattle.model.proofs.Outcome.{memory_is}
use Rattle.model.proofs.SmallReport.{SmallReport, accepted_small}
use Rattle.model.specs.Limits.{group_count}

-- w is a report whose totals, ordinary, fail and account, are these sums; a group without a line counts as 0
pub record Totals (w : List ℕ) : Type 0 where
  pub ordinary : amount_in (total_in w 0) 0 ≡ sum_to group_count (margin_in w 0)
  pub fail : amount_in (total_in w 1) 0 ≡ sum_to group_count (margin_in w 1)
  pub account : amount_in (total_in w 2) 0 ≡ amount_in (total_in w 0) 0 +ℤ amount_in (total_in w 1) 0
  pub margins_debit : (k g : ℕ) → k < 2 → g < group_count → pos 0 ≤ℤ margin_in w k g
  pub totals_debit : (i : ℕ) → i < 3 → pos 0 ≤ℤ amount_in (total_in w i) 0

sum_debit : (n : ℕ) (f : ℕ → ℤ) → ((i : ℕ) → i < n → pos 0 ≤ℤ f i) → pos 0 ≤ℤ sum_to n f
unfolding sum_to
sum_debit zero f h = omega line
sum_debit (suc n) f h = omega (line, add-line (sum_to n f) (f n), sum_debit n f (λ i p. h i (omega arith)), h n (omega arith))

cond_debit : (b : Bool) (z : ℤ) → pos 0 ≤ℤ z → pos 0 ≤ℤ cond b z (pos 0)
cond_debit true z h = h
cond_debit false z h = omega line

-- n are the nets by which a group has a line, u those of its amounts
module _ (d : List ℕ) (n u v : ℕ → ℤ) (s : SmallReport d n u v) (rest : List ℕ) where
  abbrev w : List ℕ
  w = report_words d n u v ++ rest

  margin_is : (k g : ℕ) → k < 2 → g < group_count → margin_in w k g ≡ adds d n u v k g
  margin_is k g hk hg = margin_read d n u v rest k g hk hg (s.margins k g hk hg)

  adds_debit : (k g : ℕ) → pos 0 ≤ℤ adds d n u v k g
  unfolding margin
  adds_debit k g =
      cond_debit (has_line d n v k g) (margin d u v k g)
      (rw (max-zero (group_sum d u v k g)) (omega line))

  book_is : (k : ℕ) → k < 2 → total d n u v k ≡ sum_to group_count (margin_in w k)
  unfolding total
  book_is k h = sum_to_ext group_count (adds d n u v k) (margin_in w k) (λ g p. sym (margin_is k g h p))

  book_debit : (k : ℕ) → pos 0 ≤ℤ total d n u v k
  unfolding total
  book_debit k = sum_debit group_count (adds d n u v k) (λ g p. adds_debit k g)

  pub totals_words : Totals w
  totals_words =
      let t0 = total_read d n u v rest 0 (omega arith) (s.totals 0 (omega arith)) in
      let t1 = total_read d n u v rest 1 (omega arith) (s.totals 1 (omega arith)) in
      let t2 = total_read d n u v rest 2 (omega arith) (s.totals 2 (omega arith)) in
      record {
        ordinary = t0 ∙ book_is 0 (omega arith);
        fail = t1 ∙ book_is 1 (omega arith);
        account = t2 ∙ sym (λ i. t0 i +ℤ t1 i);
        margins_debit = λ k g hk hg. subst (λ (z : ℤ). pos 0 ≤ℤ z) (sym (margin_is k g hk hg)) (adds_debit k g);
        totals_debit = λ i h. by i h t0 t1 t2;
      }
    where
      by : (i : ℕ) → i < 3
          → amount_in (total_in w 0) 0 ≡ total d n u v 0 → amount_in (total_in w 1) 0 ≡ total d n u v 1
          → amount_in (total_in w 2) 0 ≡ total d n u v 0 +ℤ total d n u v 1
          → pos 0 ≤ℤ amount_in (total_in w i) 0
      by zero h p q r = subst (λ (z : ℤ). pos 0 ≤ℤ z) (sym p) (book_debit 0)
      by (suc zero) h p q r = subst (λ (z : ℤ). pos 0 ≤ℤ z) (sym q) (book_debit 1)
      by (suc (suc zero)) h p q r =
          subst (λ (z : ℤ). pos 0 ≤ℤ z) (sym r)
          (omega (line, add-line (total d n u v 0) (total d n u v 1), book_debit 0, book_debit 1))
      by (suc (suc (suc i))) h p q r = absurd (omega arith)

pub totals_are_margins : (d b x m : List ℕ) → Accepted d b x → needed d b ≤ length m → Totals (memory_after d b x m)
totals_are_margins d b x m a h = rw (memory_is d b x m a h) (totals_words d (net b) (net_after d b x) (dvp b) (accepted_small d b x a) (drop (needed d b) m))
