use Rattle.holdings.specs.Seen.{class_day, class_net, class_book}
use Rattle.holdings.specs.Facts.{class_given, book_below}
use Rattle.std.proofs.Common.{◌≡◌, ◌≤◌, pos, nat_abs, ◌+ℤ◌, true, ℤ, arith, ◌∙◌, neg_ℤ, ap, sym, refl}
use Rattle.model.specs.Steps.Spread.{short_side, long_side}
use Rattle.model.specs.Limits.{contracts_limit}
use Rattle.spread.proofs.sides.Sides.add.Goals as goal
use Rattle.classes.specs.Sizes.{net-size}
use Rattle.model.specs.DayFile.{is_future, series_type}
use Rattle.model.specs.Netting.{position}
use Rattle.numbers.specs.Abs.{nat_abs-neg, told}
use Rattle.numbers.specs.Extremes.{max-zero_abs}
use Rattle.numbers.specs.Machine.{add_fits, add_is}
use Rattle.numbers.specs.Tests.{cond_on}

pub overflow_add-result : goal.overflow_add-result
overflow_add-result c =
    let h = c.args.held.now.class.now in
    let z = class_net h (position (class_book h) 0 c.args.held.now.place) in
    let small : nat_abs z ≤ contracts_limit = net-size (class_day h) h.account.now.nets.now (class_given h) (class_book h) 0 c.args.held.now.place (book_below h.book) (omega arith) c.args.held.now.inside in
    let was : c.args.self.short ≡ c.args.self.short = refl in
    let short = c.short_side.ensures ∙ ap short_side (told c.net-z.type_inv c.net-z.ensures) in
    add_fits was short (omega (arith, max-zero_abs z, small, c.requires.0))

pub long_side-requires : goal.long_side-requires
long_side-requires c =
    let h = c.args.held.now.class.now in
    let small = net-size (class_day h) h.account.now.nets.now (class_given h) (class_book h) 0 c.args.held.now.place (book_below h.book) (omega arith) c.args.held.now.inside in
    rw (told c.net-z.type_inv c.net-z.ensures) (omega (arith, small))

pub overflow_add-result-2 : goal.overflow_add-result-2
overflow_add-result-2 c =
    let h = c.args.held.now.class.now in
    let z = class_net h (position (class_book h) 0 c.args.held.now.place) in
    let small : nat_abs z ≤ contracts_limit = net-size (class_day h) h.account.now.nets.now (class_given h) (class_book h) 0 c.args.held.now.place (book_below h.book) (omega arith) c.args.held.now.inside in
    let was : c.args.self.long ≡ c.args.self.long = refl in
    let long = c.long_side.ensures ∙ ap long_side (told c.net-z.type_inv c.net-z.ensures) in
    add_fits was long (omega (arith, max-zero_abs (neg_ℤ z), nat_abs-neg z, small, c.requires.1))

pub returns : goal.returns
returns c =
    let h = c.args.held.now.class.now in
    let z = class_net h (position (class_book h) 0 c.args.held.now.place) in
    let small : nat_abs z ≤ contracts_limit = net-size (class_day h) h.account.now.nets.now (class_given h) (class_book h) 0 c.args.held.now.place (book_below h.book) (omega arith) c.args.held.now.inside in
    let short_was : c.args.self.short ≡ c.args.self.short = refl in
    let long_was : c.args.self.long ≡ c.args.self.long = refl in
    let net = told c.net-z.type_inv c.net-z.ensures in
    let short = c.short_side.ensures ∙ ap short_side net in
    let long = c.long_side.ensures ∙ ap long_side net in
    let e : is_future (series_type (class_day h) c.args.held.now.place) ≡ true =
    sym (λ i. is_future (series_type (c.series.ensures.0 i) (c.series.ensures.1 i))) ∙ sym c.is_future.ensures ∙ c.if-not-is_future.false in (
      add_is short_was short (omega (arith, max-zero_abs z, small, c.requires.0)) ∙ ap (λ (y : ℤ). c.args.self.short +ℤ y) (cond_on _ (short_side z) (pos 0) e),
      add_is long_was long (omega (arith, max-zero_abs (neg_ℤ z), nat_abs-neg z, small, c.requires.1)) ∙ ap (λ (y : ℤ). c.args.self.long +ℤ y) (cond_on _ (long_side z) (pos 0) e),
    )
