-- What is claimed of the worst moment of a day (U10), for every day file d, opening batch b and list of trades t. Proved in WorstMoments. Words in quotes are the request's.
use Rattle.std.specs.Prelude.{◌≡◌, true, List, [], ◌∷◌, ℕ, suc, ◌+◌, ◌≤◌, ◌<◌, ℤ, ◌+ℤ◌, ◌≤ℤ◌, ◌<ℤ◌, length}
use Rattle.numbers.specs.Sums.{sum_where}
use Rattle.model.specs.declared.Check.TheVariants.{Netting}
use Rattle.model.specs.declared.NettingFault.TheVariants.{BadTrades}
use Rattle.model.specs.Rows.{tried, plain_row}
use Rattle.model.specs.Netting.{net, dvp}
use Rattle.model.specs.Calls.{verdict, Accepted, needed, memory_after}
use Rattle.model.specs.Locality.{Reordered}
use Rattle.model.specs.Reading.{total_in, amount_in}
use Rattle.model.specs.Rewriting.{rewritten, rewriting}
use Rattle.model.specs.RewritingChecks.{dvp_check, Rewritable}
use Rattle.model.specs.WorstMoment.{trade_count, trade_at, row62, worst_check, account_after, applies, account_margin, margin_after, moment, worst_answer}
use Rattle.model.proofs.Nets.{net_of, dvp_of}

-- "a table of nets and DVP sums over the opening and the steps applied so far": among the first i
module _ (d b t : List ℕ) where
  abbrev pub table_net : ℕ → ℕ → ℤ
  table_net i p = net b p +ℤ sum_where i (applies d b t) (λ j. net_of p (trade_at t j))

  abbrev pub table_dvp : ℕ → ℕ → ℤ
  table_dvp i p = dvp b p +ℤ sum_where i (applies d b t) (λ j. dvp_of p (trade_at t j))

pub record WorstMoments : Type 0 where
  -- "tried after the opening batch is accepted and rewritten": the rows of a report, 31, then 62; row 32 is never met by the opening
  pub refusals : (d b t : List ℕ) → worst_check d b t ≡ tried (verdict d b [] ∷ dvp_check b ∷ plain_row (Netting BadTrades) (row62 t) ∷ [])
  -- "each step's account is the one that a table of nets and DVP sums over the opening and the steps applied so far gives"
  pub table : (d b t : List ℕ) (i : ℕ) → Rewritable d b → account_after d b t i ≡ rewritten (table_net d b t i) (table_dvp d b t i)
  pub nets : (d b t : List ℕ) (i p : ℕ) → Rewritable d b → net (account_after d b t i) p ≡ table_net d b t i p
  pub dvps : (d b t : List ℕ) (i p : ℕ) → Rewritable d b → dvp (account_after d b t i) p ≡ table_dvp d b t i p
  -- "the account kept rewritten as in U7": it is accepted, can be rewritten, and is its own rewriting
  pub accepted : (d b t : List ℕ) (i : ℕ) → Rewritable d b → Accepted d (account_after d b t i) []
  pub rewritable : (d b t : List ℕ) (i : ℕ) → Rewritable d b → Rewritable d (account_after d b t i)
  pub own : (d b t : List ℕ) (i : ℕ) → Rewritable d b → rewriting (account_after d b t i) ≡ account_after d b t i
  -- its margin is the account total read from its report
  pub reported : (d b m : List ℕ) → Accepted d b [] → needed d b ≤ length m → amount_in (total_in (memory_after d b [] m) 2) 0 ≡ account_margin d (net b) (dvp b)
  -- "the highest account margin over the opening and all steps"
  pub highest : (d b t : List ℕ) (i : ℕ) → i ≤ trade_count t → margin_after d b t i ≤ℤ (moment d b t).margin
  -- "the earliest step that has it"
  pub among : (d b t : List ℕ) → (moment d b t).step ≤ trade_count t
  pub has_it : (d b t : List ℕ) → margin_after d b t ((moment d b t).step) ≡ (moment d b t).margin
  pub earlier : (d b t : List ℕ) (i : ℕ) → i < (moment d b t).step → margin_after d b t i <ℤ (moment d b t).margin
  -- it is never one left out
  pub applied_step : (d b t : List ℕ) (i : ℕ) → (moment d b t).step ≡ suc i → applies d b t i ≡ true
  -- "a step that would be refused is left out and counted": every trade is applied or left out
  pub counted : (d b t : List ℕ) → (moment d b t).applied + (moment d b t).left_out ≡ trade_count t
  -- of a batch and of its rewriting, and in any order of the opening's records, it is the same
  pub kept : (d b t : List ℕ) → Rewritable d b → worst_answer d (rewriting b) t ≡ worst_answer d b t
  pub orders : (d b₁ b₂ t : List ℕ) → Rewritable d b₁ → Reordered b₁ b₂ → worst_answer d b₁ t ≡ worst_answer d b₂ t
