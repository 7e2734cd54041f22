-- The rewriting of a batch whose records pass: it has the same nets and DVPs, and can be rewritten again.
use Rattle.std.specs.Prelude.{◌≡◌, ℕ}
use mathlib.Core.List.{List, []}
use Rattle.model.specs.Netting.{net, dvp}
use Rattle.model.specs.Calls.{Accepted}
use Rattle.model.specs.Rewriting.{rewriting}
use Rattle.model.specs.RewritingChecks.{Rewritable}
use Rattle.model.proofs.Accepted.{day_checked}
use Rattle.corollaries.specs.Rewritten.{net-rewritten, dvp-rewritten, rewritten_accepted}
use Rattle.corollaries.specs.Summed.{Summed, batch_table}
use Rattle.model.proofs.NettingRows.{dvp_within, dvps_by}
use Rattle.corollaries.specs.RewritingRows.{passes}

module _ (d b : List ℕ) (s : Summed d b) where
  pub same_nets : net (rewriting b) ≡ net b
  same_nets = net-rewritten d (net b) (dvp b) (day_checked d s.day) (batch_table d b s)

  pub same_dvps : dvp (rewriting b) ≡ dvp b
  same_dvps = dvp-rewritten d (net b) (dvp b) (day_checked d s.day) (batch_table d b s)

  pub still_accepted : Accepted d (rewriting b) []
  still_accepted = rewritten_accepted d (net b) (dvp b) (day_checked d s.day) (batch_table d b s) s.space s.day

  pub still_rewritable : Rewritable d (rewriting b)
  still_rewritable = passes d (rewriting b) still_accepted (dvps_by (rewriting b) (λ p. rw same_dvps (dvp_within b s.dvps p)))
