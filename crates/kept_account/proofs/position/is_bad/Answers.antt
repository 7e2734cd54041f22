use Rattle.std.specs.Prelude.{is_err}
use Rattle.std.proofs.Common.{◌≡◌, ◌||◌, true, false, sym, ap, ◌∙◌}
use Rattle.model.specs.BatchChecks.{word_check, position_check}
use Rattle.kept_account.specs.Positions.{one_bad}
use Rattle.kept_account.proofs.position.is_bad.Goals as goal

pub returns-then-is_err : goal.returns-then-is_err
returns-then-is_err c =
    let d = c.args.day.now in
    let b = c.args.trade.now.words.now in
    let e : is_err (word_check b) ≡ true = sym (c.is_err.ensures.value ∙ ap is_err c.check_words.ensures) ∙ c.if-is_err.true in
    c.if-is_err.true ∙ sym (ap (λ t. t || is_err (position_check d b)) e) ∙ one_bad d b c.requires

pub returns-else-is_err : goal.returns-else-is_err
returns-else-is_err c =
    let d = c.args.day.now in
    let b = c.args.trade.now.words.now in
    let e : is_err (word_check b) ≡ false = sym (c.is_err.ensures.value ∙ ap is_err c.check_words.ensures) ∙ c.if-is_err.false in
    c.is_err-else-is_err.ensures.value ∙ ap is_err c.check_positions.ensures ∙ sym (ap (λ t. t || is_err (position_check d b)) e) ∙ one_bad d b c.requires
