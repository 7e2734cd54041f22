use Rattle.std.proofs.Common.{rules, ℕ, ◌∙◌, ap}
use Rattle.std.specs.Prelude.{unwrap_or}
use Rattle.numbers.specs.Finding.{find_from}
use Rattle.numbers.specs.Scan.{first_bad}
use Rattle.classes.specs.Range.{start_of}
use Rattle.classes.specs.Starts.{reached}
use Rattle.classes.proofs.starts.start.Goals as goal

pub returns : goal.returns
unfolding start_of
returns c =
    let found = find_from _ (reached c.args.day.now c.args.c) c.find.ensures.ran (λ x v q k. search rules) c.requires.from_value (search rules) in
    c.unwrap_or.ensures
    ∙ (λ i. unwrap_or (found i) c.series_count-count.result)
    ∙ ap (λ (n : ℕ). unwrap_or (first_bad (reached c.args.day.now c.args.c) n) n) c.series_count-count.ensures
