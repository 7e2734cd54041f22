use Rattle.std.proofs.Common.{ap, ◌∙◌}
use Rattle.model.specs.Batch.{headed}
use Rattle.model.specs.BatchChecks.{batch_form}
use Rattle.model.proofs.Headed.{headed_own}
use Rattle.batch_check.proofs.check_form.Goals as goal

pub returns : goal.returns
returns c =
    let b = c.args.batch.now in
    c.check_form_of.ensures ∙ ap (λ h. batch_form (headed h b)) c.batch_header.ensures ∙ ap batch_form (headed_own b)
