use Rattle.std.proofs.Common.{pos, ap, ◌∙◌, replicate}
use Rattle.model.specs.Netting.{position_count}
use Rattle.netting_times.proofs.clear.Goals as goal
use Rattle.numbers.specs.Table.{replicate_tabulate}

pub returns : goal.returns
returns c =
    c.fill.ensures.after (λ y e. e) ∙ ap (λ n. replicate n (pos 0)) c.requires ∙ replicate_tabulate position_count (pos 0)
