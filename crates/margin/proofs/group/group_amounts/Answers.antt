use Rattle.holdings.specs.Seen.{day_of, net_of, dvp_of}
use Rattle.positions.specs.Books.{book_number}
use Rattle.std.proofs.Common.{◌∙◌}
use Rattle.margin.proofs.group.group_amounts.Goals as goal
use Rattle.margin.specs.Groups.{none_below}

pub loop-c-init : goal.loop-c-init
loop-c-init c =
    (c.new-sum.ensures ∙ none_below (day_of c.args.held.now.account.now) (net_of c.args.held.now.account.now) (dvp_of c.args.held.now.account.now) (book_number c.args.held.now.book) c.args.held.now.group)
