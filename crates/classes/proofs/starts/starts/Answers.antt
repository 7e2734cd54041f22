use Rattle.std.proofs.Common.{rules, set, ◌∙◌, arith, ap}
use Rattle.model.specs.DayFile.{series_count}
use Rattle.model.proofs.Nets.{few_classes}
use Rattle.numbers.specs.Filling.{filled_more, filled_none}
use Rattle.numbers.specs.Scan.{first-zero}
use Rattle.numbers.specs.Table.{replicate_tabulate, tabulate}
use Rattle.classes.specs.Range.{start_of, cut}
use Rattle.classes.specs.Starts.{reached, next_start, starts as start_count, starts_all}
use Rattle.classes.specs.Tables.{accepted_day}
use Rattle.classes.proofs.starts.starts.Goals as goal

pub loop-c-init : goal.loop-c-init
loop-c-init c =
    let d = c.args.day.now in
    record {
      filled = replicate_tabulate start_count c.series_count-table.result ∙ ap (λ n. tabulate start_count (λ i. n)) c.series_count-table.ensures
          ∙ filled_none start_count (start_of d) (λ i. series_count d);
      within = search rules;
      none = first-zero (reached d 0);
    }

pub start-s-requires-clause-day : goal.start-s-requires-clause-day
start-s-requires-clause-day c = accepted_day c.args.day.now c.requires

pub bounds-table-c : goal.bounds-table-c
bounds-table-c c = omega (arith, few_classes c.args.day.now c.requires)

pub loop-c-preserved : goal.loop-c-preserved
loop-c-preserved c =
    let d = c.args.day.now in
    let k = c.loop-c.c in
    record {
      filled = (λ i. set (c.loop-c.invariant.filled i) k (c.start-s.ensures i))
          ∙ filled_more start_count (start_of d) (λ i. series_count d) k (omega (arith, few_classes d c.requires));
      within = rw c.start-s.ensures (cut d c.requires k).end;
      none = rw c.start-s.ensures (next_start d c.requires k);
    }

pub returns : goal.returns
returns c = c.loop-c.invariant.filled ∙ starts_all c.args.day.now c.requires c.loop-c.c (omega arith)
