use Rattle.locality.specs.Edits.{local_edit}
use Rattle.locality.proofs.report_edits.Goals as goal

pub returns-clause-local_edit : goal.returns-clause-local_edit
returns-clause-local_edit c = local_edit _ _ _ _ _ _ _ _ _ c.report.ensures.memory c.report-2.ensures.memory
