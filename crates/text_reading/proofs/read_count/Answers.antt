use Rattle.std.proofs.Common.{◌≡◌, ◌∙◌, ap, sym, arith, true, false, ℕ, [], ◌∷◌, ◌≤◌, ◌<◌, ◌&&◌, leb}
use Rattle.std.specs.Prelude.{Result, Ok, Err, Option, Some, None}
use Rattle.std.specs.Result.{OkIff, result_ok}
use borrow.Author.Tests.{le-leb, lt-leb}
use Rattle.model.specs.Limits.{most_lines}
use Rattle.model.specs.TextReading.{begins, lines_read, count_read}
use Rattle.text_parts.specs.Heads.{front_begins}
use Rattle.text_reading.proofs.read_count.Goals as goal

module _ {E : Type 0} (P : Type 0) (n : ℕ) where
  refused : (r : Result ℕ E) → None ≡ result_ok r → OkIff r P n → P → ⊥
  refused (Ok x) e h p = absurd (cc)
  refused (Err x) e h p = h p

  given : (r : Result ℕ E) (x : ℕ) → Some x ≡ result_ok r → OkIff r P n → x ≡ n
  given (Ok y) x e h = let f : x ≡ y = cc in f ∙ h.1
  given (Err y) x e h = absurd (cc)

many : (n : ℕ) → most_lines < n → leb n most_lines ≡ false
many n e = lt-leb n most_lines e

pub returns-in_err-n : goal.returns-in_err-n
unfolding count_read
returns-in_err-n c =
    let large : c.args.n < 4294967296 → ⊥ = refused _ _ _ c.in_err-n.ensures.value c.try_from.ensures in
    rw (many c.args.n (omega (arith, large))) c.from_residual.ensures

pub returns-then-n-gt-MOST_LINES : goal.returns-then-n-gt-MOST_LINES
unfolding count_read
returns-then-n-gt-MOST_LINES c =
    let same : c.in_ok-n.n ≡ c.args.n = given _ _ _ _ c.in_ok-n.ensures.value c.try_from.ensures in
    rw (many c.args.n (omega (arith, same, c.if-n-gt-MOST_LINES.true)))

pub returns-in_err-strip_prefix : goal.returns-in_err-strip_prefix
unfolding count_read
returns-in_err-strip_prefix c =
    let same : c.in_ok-n.n ≡ c.args.n = given _ _ _ _ c.in_ok-n.ensures.value c.try_from.ensures in
    let few : leb c.args.n most_lines ≡ true = le-leb c.args.n most_lines (omega (arith, same, c.if-n-gt-MOST_LINES.false)) in
    let head : begins (10 ∷ []) c.args.text.now ≡ false = sym (front_begins (10 ∷ []) c.args.text.now) ∙ c.in_err-strip_prefix.ensures.cases in
    rw (few, head) c.from_residual-in_err-strip_prefix.ensures

pub returns : goal.returns
unfolding count_read
returns c =
    let same : c.in_ok-n.n ≡ c.args.n = given _ _ _ _ c.in_ok-n.ensures.value c.try_from.ensures in
    let few : leb c.args.n most_lines ≡ true = le-leb c.args.n most_lines (omega (arith, same, c.if-n-gt-MOST_LINES.false)) in
    let head : begins (10 ∷ []) c.args.text.now ≡ true = sym (front_begins (10 ∷ []) c.args.text.now) ∙ c.in_ok-strip_prefix.ensures.cases.0 in
    rw (few, head) (c.read_lines.ensures ∙ (λ i. lines_read (same i) (c.in_ok-strip_prefix.ensures.cases.1 i)))
