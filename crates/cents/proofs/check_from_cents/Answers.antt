use Rattle.std.specs.Prelude.{Ok}
use Rattle.std.proofs.Common.{rules, ◌≡◌, ◌-◌, sym, ap, ◌∙◌, arith}
use Rattle.model.specs.Batch.{headed}
use Rattle.model.specs.BatchChecks.{batch_form}
use Rattle.model.specs.declared.Check.TheVariants.{BatchWords}
use Rattle.model.specs.declared.BatchWordsFault.TheVariants.{CentsTooLarge}
use Rattle.model.specs.Rows.{record_row}
use Rattle.model.specs.Cents.{cents_bit}
use Rattle.model.specs.CentsChecks.{row34}
use Rattle.model.proofs.Headed.{headed_form}
use Rattle.cents.specs.Stages.{bit_missing, form_refused, limits_tried}
use Rattle.cents.proofs.check_from_cents.Goals as goal
use Rattle.cents.proofs.check_from_cents.Goals.{In_ok-check_form_of}

-- the batch without the bit passes the rows of its form
form : (c : In_ok-check_form_of) → batch_form (headed (c.batch_header-header.result - cents_bit) c.args.batch.now) ≡ Ok tt
form c = sym c.check_form_of.ensures ∙ c.in_ok-check_form_of.was

pub returns-then-not-is_in_cents : goal.returns-then-not-is_in_cents
returns-then-not-is_in_cents c = bit_missing c.args.batch.now (sym c.is_in_cents.ensures ∙ c.if-not-is_in_cents.true)

pub returns-in_err-check_form_of : goal.returns-in_err-check_form_of
returns-in_err-check_form_of c =
    let b = c.args.batch.now in
    search rules
    ∙ form_refused b (sym c.is_in_cents.ensures ∙ c.if-not-is_in_cents.false) c.in_err-check_form_of.field-0.0
    (ap (λ h. batch_form (headed (h - cents_bit) b)) (sym c.batch_header-header.ensures) ∙ sym c.check_form_of.ensures ∙ c.in_err-check_form_of.was)

pub check_cents_limit-requires : goal.check_cents_limit-requires
check_cents_limit-requires c =
    let e = headed_form (c.batch_header-header.result - cents_bit) c.args.batch.now (form (goal.at.check_cents_limit-requires c).In_ok-check_form_of) in
    omega (arith, e.0, c.payload.ensures)

pub returns : goal.returns
returns c =
    let b = c.args.batch.now in
    c.check_cents_limit.ensures
    ∙ ap (record_row (BatchWords CentsTooLarge) (row34 b)) c.payload.ensures
    ∙ limits_tried b (sym c.is_in_cents.ensures ∙ c.if-not-is_in_cents.false) (c.batch_header-header.result - cents_bit) (ap (λ h. h - cents_bit) c.batch_header-header.ensures)
    (form (goal.at.returns c).In_ok-check_form_of)
