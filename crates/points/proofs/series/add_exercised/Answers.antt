use Rattle.holdings.specs.Seen.{class_day, class_net, class_book}
use Rattle.holdings.specs.Facts.{class_given, book_below}
use Rattle.std.proofs.Common.{rules, ◌*◌, ◌≤◌, ◌∙◌, nat_abs, w64, to_z, ap, sym, arith, le_of_eq}
use Rattle.classes.specs.Sizes.{contracts_size}
use Rattle.model.specs.DayFile.{series_type, multiplier}
use Rattle.model.specs.Limits.{contracts_limit}
use Rattle.model.specs.Steps.Positions.{exercised_net}
use Rattle.numbers.specs.Abs.{told}
use Rattle.points.proofs.series.add_exercised.Goals as goal
use Rattle.model.proofs.Limits.{underlying_limit}
use Rattle.points.specs.Series.{by_type_small, exercised-none, projected_prices_limit}

pub returns-then-net-eq0 : goal.returns-then-net-eq0
returns-then-net-eq0 c =
    let h = c.args.held.now.class.now in
    let s = c.args.held.now.place in
    exercised-none (class_day h) s (exercised_net (class_net h) (class_book h) s) h.class c.args.points.at
    (le_of_eq (ap nat_abs (sym (told c.net.type_inv c.net.ensures) ∙ ap (to_z w64) c.if-net-eq0.true))) (search rules)

pub add-requires : goal.add-requires
add-requires c =
    let h = c.args.held.now.class.now in
    let d = class_day h in
    let s = c.args.held.now.place in
    let net = exercised_net (class_net h) (class_book h) s in
    let e = c.exercised_position.ensures in
    let small : nat_abs net * multiplier d s ≤ contracts_limit = contracts_size d h.account.now.nets.now (class_given h) (class_book h) 1 s (book_below h.book) (omega arith) c.args.held.now.inside in
    record {
      contracts_bound = (
        rw e.0 (by_type_small d s net (series_type d s) small),
        rw e.1 (underlying_limit d (class_given h).day.rows h.class h.inside),
        rw e.2 (projected_prices_limit d (class_given h).day.rows h.class h.inside),
      );
      by_index = c.requires;
    }
