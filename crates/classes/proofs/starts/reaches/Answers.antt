use Rattle.std.proofs.Common.{leb, ◌∙◌}
use Rattle.classes.proofs.starts.reaches.Goals as goal
use Rattle.model.proofs.Together.{class_test}

pub returns : goal.returns
returns c =
    (λ i. leb (c.number.ensures i) (c.class_number.ensures i))
    ∙ class_test c.args.day.now c.requires.day.rows c.args.c c.args.s c.requires.c_bound.0 c.requires.c_bound.1
