-- The order of the records and of the deposits changes nothing.
use mathlib.Core.Path.{◌≡◌, sym, ap, ◌∙◌}
use mathlib.Core.Bool.{not, ◌||◌}
use mathlib.Core.List.{List}
use Prim.Native.Nat.{ℕ}
use lib.Dec.{eqb, ltb}
use lib.ListN.{length}
use Rattle.numbers.specs.Lists.{any_perm}
use Rattle.model.specs.Limits.{most_records}
use Rattle.model.specs.Words.{kind, payload}
use Rattle.model.specs.Batch.{batch_words}
use Rattle.model.specs.BatchChecks.{row20, row21}
use Rattle.model.specs.Netting.{net, dvp, netting_check}
use Rattle.model.specs.Steps.{covered}
use Rattle.model.specs.Report.{report_words, words_needed}
use Rattle.model.specs.Calls.{Accepted, net_after, answer, answer_of, room_answer, memory_after, written}
use Rattle.model.specs.Locality.{records, Reordered, DepositsReordered, Orders}
use Rattle.model.proofs.Accepted.{BatchRows, clear_back, netting_rows, day-passed, batch_rows, deposit_rows, rows_accepted}
use Rattle.model.proofs.CoverLocal.{cover_order}
use Rattle.model.proofs.DepositOrders.{deposits_still}
use Rattle.model.proofs.GoodRecord.{bad, rows_list, list_rows}
use Rattle.model.proofs.Nets.{net_order, dvp_order}
use Rattle.model.proofs.NettingRows.{net_limited, netting_by}

module _ (d b₁ b₂ : List ℕ) (o : Reordered b₁ b₂) where
  net_same : net b₁ ≡ net b₂
  net_same = net_order b₁ b₂ o.same

  dvp_same : dvp b₁ ≡ dvp b₂
  dvp_same = dvp_order b₁ b₂ o.same

  rows : BatchRows d b₁ → BatchRows d b₂
  unfolding row20 row21 netting_check
  rows r =
      record {
        checks = record {
          at20 = sym (λ i. eqb (o.long i) 0 || not (eqb (kind (o.header i)) 1) || ltb most_records (payload (o.header i))) ∙ r.checks.at20;
          at21 = sym (λ i. not (eqb (o.long i) (batch_words (payload (o.header i))))) ∙ r.checks.at21;
          records = list_rows d b₂ (sym (any_perm (bad d) (records b₁) (records b₂) o.same) ∙ rows_list d b₁ r.checks.records);
        };
        at30 = netting_rows d b₂ (netting_by d b₂ (λ p. rw (← net_same) (net_limited d b₁ (clear_back _ _ _ r.at30) p)));
      }

  module _ (x₁ x₂ : List ℕ) (q : DepositsReordered x₁ x₂) where
    after_same : net_after d b₁ x₁ ≡ net_after d b₂ x₂
    after_same = cover_order d x₁ x₂ q.same (net b₁) ∙ ap (covered d x₂) net_same

    accepted_still : Accepted d b₁ x₁ → Accepted d b₂ x₂
    accepted_still a =
        rows_accepted d b₂ x₂ (day-passed d b₁ x₁ a) (rows (batch_rows d b₁ x₁ a)) (deposits_still d x₁ x₂ q (deposit_rows d b₁ x₁ a))

    answer_same : (room : ℕ) → Accepted d b₁ x₁ → answer d b₁ x₁ room ≡ answer d b₂ x₂ room
    unfolding answer
    answer_same room a = λ i. answer_of ((a ∙ sym (accepted_still a)) i) (room_answer (words_needed d (net_same i) (dvp_same i)) room)

    memory_same : (m : List ℕ) → Accepted d b₁ x₁ → memory_after d b₁ x₁ m ≡ memory_after d b₂ x₂ m
    unfolding memory_after
    memory_same m a = λ i. written (answer_same (length m) a i) (report_words d (net_same i) (after_same i) (dvp_same i)) m

pub orders : Orders
orders =
    record {
      accepted = λ d b₁ b₂ x₁ x₂ a o q. accepted_still d b₁ b₂ o x₁ x₂ q a;
      answers = λ d b₁ b₂ x₁ x₂ room a o q. answer_same d b₁ b₂ o x₁ x₂ q room a;
      memories = λ d b₁ b₂ x₁ x₂ m a o q. memory_same d b₁ b₂ o x₁ x₂ q m a;
    }
