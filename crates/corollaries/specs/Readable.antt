-- The words of an accepted report say the amounts: read back, they are those of the steps.
use Rattle.std.specs.Prelude.{◌≡◌, true, ℕ, ◌≤◌, ◌<◌, ℤ, length, drop}
use Rattle.std.proofs.Common.{ap, ◌∙◌}
use mathlib.Core.List.{List, [], ◌∷◌, ◌++◌}
use Rattle.numbers.specs.Maps.{bit}
use Rattle.model.proofs.WordsBack.{amount_back}
use Rattle.model.specs.Netting.{net, dvp}
use Rattle.model.specs.Steps.Lines
use Rattle.model.specs.Steps.Margin
use Rattle.model.specs.Steps.Minimum
use Rattle.model.specs.Report.{words_of_amounts, line_words, line_count, report_words}
use Rattle.model.specs.Calls.{Accepted, net_after, needed, memory_after}
use Rattle.model.specs.Reading.{count_in, stands_in, total_in, amount_in, amounts_in, six_in}
use Rattle.model.proofs.Accepted.{DayRows, day_rows}
use Rattle.model.proofs.Read.{total_of, count_read_lem, stands_read, line_read, total_read}
use Rattle.model.proofs.Records.{Budget}
use Rattle.model.proofs.Bounds.{margin_small, spread_small_lem, mtm_small_lem, premium_small_lem, requirement_small, residual_small}
use Rattle.model.proofs.Outcome.{memory_is}
use Rattle.model.proofs.SmallReport.{small_report, accepted_budget}
use Rattle.model.specs.Limits.{group_count}

-- w is a report whose lines stand by the nets n and have the amounts of the nets u
pub record Readable (d : List ℕ) (n u v : ℕ → ℤ) (w : List ℕ) : Type 0 where
  pub count : count_in w ≡ line_count d n v
  pub stands : (k g : ℕ) → k < 2 → g < group_count → stands_in w k g ≡ bit (Lines.has_line d n v k g)
  pub amounts : (k g : ℕ) → k < 2 → g < group_count → Lines.has_line d n v k g ≡ true → amounts_in w k g ≡ Margin.line_amounts d u v k g
  pub totals : (i : ℕ) → i < 3 → amount_in (total_in w i) 0 ≡ total_of d n u v i

module _ (d : List ℕ) (n u v : ℕ → ℤ) (p : DayRows d) (q : Budget d u v) where
  six_back : (k g : ℕ) → k < 2 → g < group_count → six_in (line_words d u v k g) ≡ Margin.line_amounts d u v k g
  unfolding line_words words_of_amounts Margin.line_amounts
  six_back k g hk hg =
      λ i.
      amount_back (Margin.group_spread d u k g) (spread_small_lem d u v p q k g hk hg) i
      ∷ amount_back (Margin.group_mtm d u v k g) (mtm_small_lem d u v p q k g hk hg) i
      ∷ amount_back (Margin.group_premium d u k g) (premium_small_lem d u v p q k g hk hg) i
      ∷ amount_back (Minimum.requirement d u k g) (requirement_small d u v p q k g hk hg) i
      ∷ amount_back (Margin.margin d u v k g) (margin_small d u v p q k g hk hg) i
      ∷ amount_back (Margin.residual d u v k g) (residual_small d u v p q k g hk hg) i
      ∷ []

  pub readable_words : (r : List ℕ) → Readable d n u v (report_words d n u v ++ r)
  readable_words r =
      record {
        count = count_read_lem d n u v r;
        stands = stands_read d n u v r;
        amounts = λ k g hk hg e. ap six_in (line_read d n u v r k g hk hg e) ∙ six_back k g hk hg;
        totals = λ i h. total_read d n u v r i h ((small_report d n u v p q).totals i h);
      }

pub readable : (d b x m : List ℕ) → Accepted d b x → needed d b ≤ length m → Readable d (net b) (net_after d b x) (dvp b) (memory_after d b x m)
readable d b x m a h =
    rw (memory_is d b x m a h) (readable_words d (net b) (net_after d b x) (dvp b) (day_rows d b x a) (accepted_budget d b x a) (drop (needed d b) m))
