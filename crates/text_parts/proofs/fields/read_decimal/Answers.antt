use Rattle.std.proofs.Common.{rules, ◌≡◌, ℕ, true, sym, get_or, ◌∙◌, arith, ap, length}
use Rattle.model.specs.TextReading.{is_digit, of_digits}
use Rattle.text_parts.proofs.fields.read_decimal.Goals as goal
use Rattle.text_parts.specs.ReadingSteps.{digit_more}
use Rattle.text_parts.specs.ReadingSteps.{digit_other}
use Rattle.text_parts.specs.ReadingSteps.{digit_twentieth}
use Rattle.text_parts.specs.ReadingSteps.{digits_below}
use Rattle.text_parts.specs.ReadingSteps.{digits_end}
use Rattle.text_parts.specs.ReadingSteps.{digits_fit}

pub returns-then-not-is_ascii_digit : goal.returns-then-not-is_ascii_digit
returns-then-not-is_ascii_digit c =
    let t = c.args.text.now in
    let e = sym c.is_ascii_digit.ensures.value ∙ c.if-not-is_ascii_digit.true in
    c.of_digits.ensures ∙ sym (c.loop-k.invariant.2 ∙ digit_other t c.loop-k.n c.loop-k.k (search rules) e)

pub returns-then-k-ge19 : goal.returns-then-k-ge19
returns-then-k-ge19 c =
    let byte : ℕ = get_or c.args.text.now c.loop-k.k 0 in
    let is_one : is_digit byte ≡ true = sym c.is_ascii_digit.ensures.value ∙ c.if-not-is_ascii_digit.false in
    let t = c.args.text.now in
    sym (c.loop-k.invariant.2 ∙ digit_twentieth t c.loop-k.n c.loop-k.k (search rules) is_one c.if-k-ge19.true)

pub overflow_mul-n : goal.overflow_mul-n
overflow_mul-n c =
    let byte : ℕ = get_or c.args.text.now c.loop-k.k 0 in
    let is_one : is_digit byte ≡ true = sym c.is_ascii_digit.ensures.value ∙ c.if-not-is_ascii_digit.false in
    record { fits = omega (arith, digits_fit c.loop-k.n c.loop-k.k byte c.loop-k.invariant.1 c.if-k-ge19.false is_one) }

pub overflow_add-n : goal.overflow_add-n
overflow_add-n c =
    let byte : ℕ = get_or c.args.text.now c.loop-k.k 0 in
    let is_one : is_digit byte ≡ true = sym c.is_ascii_digit.ensures.value ∙ c.if-not-is_ascii_digit.false in
    record { fits = omega (arith, c.from.ensures, digits_fit c.loop-k.n c.loop-k.k byte c.loop-k.invariant.1 c.if-k-ge19.false is_one) }

pub loop-k-preserved : goal.loop-k-preserved
loop-k-preserved c =
    let byte : ℕ = get_or c.args.text.now c.loop-k.k 0 in
    let is_one : is_digit byte ≡ true = sym c.is_ascii_digit.ensures.value ∙ c.if-not-is_ascii_digit.false in
    let t = c.args.text.now in
    let e = is_one in
    rw c.from.ensures (
      omega (arith, c.if-k-ge19.false),
      digits_below c.loop-k.n c.loop-k.k byte c.loop-k.invariant.1 e,
      c.loop-k.invariant.2 ∙ digit_more t c.loop-k.n c.loop-k.k (search rules) e c.if-k-ge19.false,
    )

pub returns : goal.returns
returns c =
    let t = c.args.text.now in
    let e : c.loop-k.k ≡ length t = omega arith in
    c.of_digits-2.ensures ∙ ap (of_digits c.loop-k.n) (sym e) ∙ sym (c.loop-k.invariant.2 ∙ digits_end t c.loop-k.n c.loop-k.k e)
