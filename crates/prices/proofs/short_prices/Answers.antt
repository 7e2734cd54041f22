use Rattle.std.proofs.Common.{◌≡◌, max, get_or, set, ℕ, List, ◌∙◌, sym}
use Rattle.model.specs.Limits.{downside5, upside5}
use Rattle.prices.specs.Adjusted.{short-call, short-put, short_other}
use Rattle.prices.proofs.short_prices.Goals as goal

same_store : (j : ℕ) {p q : List ℕ} {a b : ℕ} → p ≡ q → a ≡ b → set p j (max (get_or p j 0) a) ≡ set q j (max (get_or q j 0) b)
same_store j e h = λ i. set (e i) j (max (get_or (e i) j 0) (h i))

pub returns-then-is_call : goal.returns-then-is_call
returns-then-is_call c =
    let x = c.args.series.now in
    c.adjusted.ensures ∙ same_store upside5 c.theoretical_prices-prices.ensures c.adjustment.ensures
    ∙ short-call x.day.now x.place (sym c.is_call.ensures ∙ c.if-is_call.true)

pub returns-then-is_put : goal.returns-then-is_put
returns-then-is_put c =
    let x = c.args.series.now in
    c.adjusted-then-is_put.ensures ∙ same_store downside5 c.theoretical_prices-prices.ensures c.adjustment-then-is_put.ensures
    ∙ short-put x.day.now x.place (sym c.is_call.ensures ∙ c.if-is_call.false) (sym c.is_put.ensures ∙ c.if-is_put.true)

pub returns : goal.returns
returns c =
    let x = c.args.series.now in
    c.theoretical_prices-prices.ensures ∙ short_other x.day.now x.place (sym c.is_call.ensures ∙ c.if-is_call.false) (sym c.is_put.ensures ∙ c.if-is_put.false)
