use Rattle.locality.specs.Edits.{same_order}
use Rattle.locality.proofs.report_orders.Goals as goal

pub returns-clause-same_order : goal.returns-clause-same_order
returns-clause-same_order c = same_order _ _ _ _ _ _ _ _ _ _ _ c.report.ensures.memory c.report-2.ensures.memory c.report.ensures.result c.report-2.ensures.result
