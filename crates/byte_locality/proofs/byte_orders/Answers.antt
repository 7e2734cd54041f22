use Rattle.byte_locality.specs.Edits.{same_byte_order}
use Rattle.byte_locality.proofs.byte_orders.Goals as goal

pub returns-clause-same_byte_order : goal.returns-clause-same_byte_order
returns-clause-same_byte_order c =
    same_byte_order _ _ _ _ _ _ _ _ _ c.byte_report.ensures.memory c.byte_report-2.ensures.memory c.byte_report.ensures.result c.byte_report-2.ensures.result
