use Rattle.std.proofs.Common.{◌≡◌, ap, ◌∙◌, pos, arith}
use Rattle.classes.specs.Range.{start_of}
use Rattle.holdings.specs.Facts.{day_accepted}
use Rattle.holdings.specs.Seen.{day_of, net_of}
use Rattle.model.specs.DayFile.{class_count}
use Rattle.model.specs.Netting.{position_count}
use Rattle.cover.specs.Covered.{covered_to, first_class, last_class}
use Rattle.cover.proofs.cover.Goals as goal
use Rattle.numbers.specs.Filling.{tabulate-get_or}

pub loop-c-init : goal.loop-c-init
loop-c-init c =
    let h = c.args.account.now.holdings.now in
    c.copy_from_slice.ensures.after ∙ tabulate-get_or h.nets.now position_count (pos 0) c.requires.nets_len
    ∙ first_class (day_of h) c.args.account.now.deposits.now (net_of h) (day_accepted h).rows

pub returns : goal.returns
returns c =
    let h = c.args.account.now.holdings.now in
    let d = day_of h in
    let e : c.loop-c.c ≡ class_count d = omega arith in
    c.loop-c.invariant ∙ ap (λ (k : _). covered_to d c.args.account.now.deposits.now (net_of h) (start_of d k)) e
    ∙ last_class d c.args.account.now.deposits.now (net_of h) (day_accepted h).rows (omega (arith, (day_accepted h).series))
