use Rattle.positions.specs.Books.{book_number}
use Rattle.std.proofs.Common.{◌≡◌, ◌^◌, ◌<◌, ◌≤◌, false, arith, get_or, ap, pow_mono, sym, ◌∙◌, refl}
use Rattle.model.specs.Report.{book_map}
use Rattle.classes.specs.Tables.{entry}
use Rattle.model.specs.Limits.{group_count}
use Rattle.books.proofs.maps.book_map.Goals as goal
use Rattle.books.specs.Maps.{map_more, power_more}
use Rattle.model.specs.Steps.Lines.{has_line}
use Rattle.numbers.specs.Maps.{map-none, map_below, map_lt}
use Rattle.numbers.specs.Table.{get_or-tabulate}
use Rattle.presence.specs.Presence.{group_flags}

pub loop-g-init : goal.loop-g-init
loop-g-init c = record { map = sym (map-none (has_line c.args.day.now.words.now (entry c.args.of.now.nets.now) (entry c.args.of.now.dvps.now) (book_number c.args.of.now.book))); bit = refl }

pub with_bit-map-requires : goal.with_bit-map-requires
with_bit-map-requires c =
    let g = c.loop-g.g in
    let bit_size : c.loop-g.bit ≤ 2 ^ 28 = let h : g ≤ 28 = omega arith in omega (arith, c.loop-g.invariant.bit, pow_mono h) in
    let t = has_line c.args.day.now.words.now (entry c.args.of.now.nets.now) (entry c.args.of.now.dvps.now) (book_number c.args.of.now.book) in
    let map_size : c.loop-g.map < 2 ^ group_count = let h : g ≤ group_count = omega arith in omega (arith, c.loop-g.invariant.map, map_lt t g, pow_mono h) in
    (map_size, omega (arith, bit_size))

pub overflow_mul-bit : goal.overflow_mul-bit
overflow_mul-bit c =
    let g = c.loop-g.g in
    let bit_size : c.loop-g.bit ≤ 2 ^ 28 = let h : g ≤ 28 = omega arith in omega (arith, c.loop-g.invariant.bit, pow_mono h) in
    record { fits = omega (arith, bit_size) }

pub loop-g-preserved : goal.loop-g-preserved
loop-g-preserved c =
    let t = has_line c.args.day.now.words.now (entry c.args.of.now.nets.now) (entry c.args.of.now.dvps.now) (book_number c.args.of.now.book) in
    let g = c.loop-g.g in
    let flag_is : get_or c.groups_held-held.result g false ≡ t g = ap (λ l. get_or l g false) c.groups_held-held.ensures ∙ get_or-tabulate group_flags t g false (omega arith) in
    record {
      map = c.with_bit-map.ensures ∙ map_more t g c.loop-g.map c.loop-g.bit _ c.loop-g.invariant.map c.loop-g.invariant.bit flag_is;
      bit = power_more g c.loop-g.bit c.loop-g.invariant.bit;
    }

pub returns : goal.returns
unfolding book_map
returns c =
    let e : c.loop-g.g ≡ group_count = omega arith in
    let h = has_line c.args.day.now.words.now (entry c.args.of.now.nets.now) (entry c.args.of.now.dvps.now) (book_number c.args.of.now.book) in
    let q = c.loop-g.invariant.map ∙ ap (map_below h) e in
    (q, omega (arith, q, map_lt h group_count))
