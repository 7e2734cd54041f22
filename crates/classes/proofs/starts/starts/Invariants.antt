use Rattle.std.proofs.Common.{◌≡◌, ◌≤◌, None}
use Rattle.numbers.specs.Scan.{first_bad}
use Rattle.numbers.specs.Filling.{filled}
use Rattle.model.specs.DayFile.{series_count}
use Rattle.classes.specs.Range.{start_of}
use Rattle.classes.specs.Starts.{reached, starts as start_count}
use Rattle.classes.proofs.starts.starts.Given as goal

abbrev pub invariant-loop-c : goal.invariant-loop-c
invariant-loop-c l = record {
  filled : l.table ≡ filled start_count (start_of l.day) (λ i. series_count l.day) l.c;
  within : l.s ≤ series_count l.day;
  none : first_bad (reached l.day l.c) l.s ≡ None;
}
