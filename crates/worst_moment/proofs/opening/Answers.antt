use Rattle.std.specs.Prelude.{Ok}
use Rattle.std.proofs.Common.{pos, sym, ap, ◌∙◌, arith}
use Rattle.numbers.specs.Table.{replicate_tabulate}
use Rattle.model.specs.Netting.{position_count, net, dvp}
use Rattle.model.proofs.Accepted.{batch_checked}
use Rattle.classes.specs.Checked.{checked_rows, checked_passed}
use Rattle.netting.specs.Limits.{limited}
use Rattle.day_steps.specs.Kept.{opening_kept}
use Rattle.kept_account.specs.Accounts.{account_of}
use Rattle.checked_nets.specs.Netted.{nets_are, dvps_are, places_most, all_held}
use Rattle.worst_moment.specs.Openings.{opened, sums_rewritable}
use Rattle.worst_moment.proofs.opening.Goals as goal
use Rattle.worst_moment.proofs.opening.Goals.{After-count_held-held}

pub invariant_of-net_checked : goal.invariant_of-net_checked
invariant_of-net_checked c = record { limited = limited c.args.day.now.words.now c.args.batch.now (batch_checked c.args.day.now.words.now c.args.batch.now c.requires) }

pub net_checked-requires : goal.net_checked-requires
net_checked-requires c =
    record {
      rows = (batch_checked c.args.day.now.words.now c.args.batch.now c.requires).records;
      nets_value = replicate_tabulate position_count (pos 0);
      dvps_value = replicate_tabulate position_count (pos 0);
    }

pub new-requires-clause-series_bound : goal.new-requires-clause-series_bound
new-requires-clause-series_bound c =
    let d = c.args.day.now.words.now in
    let b = c.args.batch.now in
    omega (arith, c.series_count.ensures, places_most d b (checked_rows d c.args.day.now.checked) (batch_checked d b c.requires).records)

pub new-requires-clause-all_held : goal.new-requires-clause-all_held
new-requires-clause-all_held c =
    let d = c.args.day.now.words.now in
    let b = c.args.batch.now in
    let n = nets_are b c.net_checked.new.nets c.net_checked.ensures.nets_after in
    let v = dvps_are b c.net_checked.new.dvps c.net_checked.ensures.dvps_after in
    rw (n, v, c.series_count.ensures) (all_held d b (checked_rows d c.args.day.now.checked) (batch_checked d b c.requires).records)

pub new-requires-2-clause-kept : goal.new-requires-2-clause-kept
new-requires-2-clause-kept c =
    let d = c.args.day.now.words.now in
    let b = c.args.batch.now in
    let n = nets_are b c.net_checked.new.nets c.net_checked.ensures.nets_after in
    let v = dvps_are b c.net_checked.new.dvps c.net_checked.ensures.dvps_after in
    rw (n, v) (opening_kept d b (sums_rewritable d b (checked_passed d c.args.day.now.checked) c.requires (sym c.net_checked.ensures.value ∙ c.in_ok-net_checked.was)))

pub returns : goal.returns
returns c =
    let d = c.args.day.now.words.now in
    let b = c.args.batch.now in
    let n = nets_are b c.net_checked.new.nets c.net_checked.ensures.nets_after in
    let v = dvps_are b c.net_checked.new.dvps c.net_checked.ensures.dvps_after in
    ap Ok (c.new-2.ensures ∙ (λ i. account_of d (n i) (v i)))
    ∙ ap (λ u. opened u (account_of d (net b) (dvp b))) (sym (sym c.net_checked.ensures.value ∙ c.in_ok-net_checked.was))
