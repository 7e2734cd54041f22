use Rattle.std.proofs.Common.{pos}
use Rattle.numbers.specs.Filling.{tabulate-get_or}
use Rattle.numbers.specs.Table.{entry}
use Rattle.model.specs.Netting.{position_count}
use Rattle.day_steps.specs.Kept.{kept_few}
use Rattle.kept_account.proofs.account.Account.new.Goals as goal

pub invariant_of-tables : goal.invariant_of-tables
invariant_of-tables c = record { few = kept_few c.args.day.now.words.now (entry c.args.nets) (entry c.args.dvps) c.requires.kept }

pub returns : goal.returns
returns c =
    λ i.
    record {
      nets = tabulate-get_or c.args.nets position_count (pos 0) c.requires.lengths.0 i;
      dvps = tabulate-get_or c.args.dvps position_count (pos 0) c.requires.lengths.1 i;
      held = c.requires.held_value i;
      ordinary = c.of_book-ordinary.ensures i;
      fail = c.of_book-fail.ensures i;
    }
