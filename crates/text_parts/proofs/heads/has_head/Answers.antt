use Rattle.std.proofs.Common.{◌∙◌}
use Rattle.text_parts.proofs.Starts.{starts-begins}
use Rattle.text_parts.proofs.heads.has_head.Goals as goal

pub returns : goal.returns
returns c = c.starts_with.ensures.value ∙ starts-begins c.args.head.now c.args.text.now
