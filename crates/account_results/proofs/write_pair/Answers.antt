use Rattle.std.proofs.Common.{◌*◌, ◌∷◌, [], ◌∙◌, arith}
use Rattle.numbers.specs.Put.{put_copied}
use Rattle.model.specs.ManyAccounts.{result_numbers, pair_of}
use Rattle.account_results.proofs.write_pair.Goals as goal

pub returns : goal.returns
returns c =
    let pair = c.copy_from_slice.ensures.after ∙ (λ j. c.status.ensures j ∷ c.value.ensures j ∷ []) in
    put_copied (result_numbers * c.args.i) _ (pair_of c.args.answer) c.args.results.now _ pair (omega arith)
