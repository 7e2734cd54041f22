use Rattle.holdings.specs.Seen.{class_day, class_net, class_book}
use Rattle.holdings.specs.Facts.{class_given, class_range, book_below}
use Rattle.std.proofs.Common.{◌∙◌, arith}
use Rattle.model.specs.DayFile.{spot_rate, non_spot_rate}
use Rattle.model.proofs.Limits.{non_spot_rate_limit, spot_rate_limit}
use Rattle.numbers.specs.Abs.{back, told}
use Rattle.spread.specs.Laws.{quantity_size, spot_size_lem, spread_parts}
use Rattle.spread.specs.Sides.{spread_amount}
use Rattle.spread.proofs.amount.spread.Goals as goal

pub spread_amount-requires : goal.spread_amount-requires
spread_amount-requires c =
    let h = c.args.of.now.class.now in
    let d = class_day h in
    let w = class_given h in
    let r = class_range h in
    let near = c.spot_rate-spot_rate.ensures ∙ (λ i. spot_rate (c.class-class.ensures.0 i) (c.class-class.ensures.1 i)) in
    let far = c.non_spot_rate-rate.ensures ∙ (λ i. non_spot_rate (c.class-class.ensures.0 i) (c.class-class.ensures.1 i)) in (
      rw (told c.spot_size-spot.type_inv c.spot_size-spot.ensures) (spot_size_lem d h.account.now.nets.now w (class_book h) h.class (book_below h.book) r.class),
      rw (back c.args.of.now.value (omega (arith, quantity_size (class_day h) h.account.now.nets.now (class_given h) (class_book h) h.class (book_below h.book) (class_range h).class))) (quantity_size d h.account.now.nets.now w (class_book h) h.class (book_below h.book) r.class),
      rw near (spot_rate_limit d w.day.rows h.class r.class),
      rw far (non_spot_rate_limit d w.day.rows h.class r.class),
    )

pub returns : goal.returns
returns c =
    let h = c.args.of.now.class.now in
    let spot = told c.spot_size-spot.type_inv c.spot_size-spot.ensures in
    let quantity = back c.args.of.now.value (omega (arith, quantity_size (class_day h) h.account.now.nets.now (class_given h) (class_book h) h.class (book_below h.book) (class_range h).class)) in
    let near = c.spot_rate-spot_rate.ensures ∙ (λ i. spot_rate (c.class-class.ensures.0 i) (c.class-class.ensures.1 i)) in
    let far = c.non_spot_rate-rate.ensures ∙ (λ i. non_spot_rate (c.class-class.ensures.0 i) (c.class-class.ensures.1 i)) in
    told c.spread_amount.type_inv
    (c.spread_amount.ensures
    ∙ (λ i. spread_amount (spot i) (quantity i) (near i) (far i))
    ∙ spread_parts (class_day h) (class_net h) (class_book h) h.class)
