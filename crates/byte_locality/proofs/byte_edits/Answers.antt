use Rattle.byte_locality.specs.Edits.{local_byte_edit}
use Rattle.byte_locality.proofs.byte_edits.Goals as goal

pub returns-clause-local_byte_edit : goal.returns-clause-local_byte_edit
returns-clause-local_byte_edit c = local_byte_edit _ _ _ _ _ _ _ c.byte_report.ensures.memory c.byte_report-2.ensures.memory
