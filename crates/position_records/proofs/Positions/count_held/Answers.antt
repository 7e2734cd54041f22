use Rattle.std.proofs.Common.{◌≡◌, ℕ, length, sym, ap, ◌∙◌, arith}
use Rattle.numbers.specs.Table.{entry}
use Rattle.position_records.specs.Places.{records_to, count_none, count_yes, count_no, count_most}
use Rattle.position_records.proofs.Positions.count_held.Goals as goal
use Rattle.position_records.proofs.Positions.count_held.Goals.{then-is_held, else-is_held}

pub loop-i-init : goal.loop-i-init
loop-i-init c = count_none (entry c.args.self.now.nets.now) (entry c.args.self.now.dvps.now)

pub overflow_add-held : goal.overflow_add-held
overflow_add-held c =
    let n = entry c.args.self.now.nets.now in
    let v = entry c.args.self.now.dvps.now in
    record { fits = omega (arith, c.loop-i.invariant, count_most n v c.loop-i.i (omega (arith, c.loop-i-test.true, c.args.self.now.places_bound))) }

pub loop-i-preserved : goal.loop-i-preserved
loop-i-preserved c =
    let n = entry c.args.self.now.nets.now in
    let v = entry c.args.self.now.dvps.now in
    elim c.if-is_held.branch [
      | then-is_held w ↦ omega (arith, w.held-is, c.loop-i.invariant, count_yes n v c.loop-i.i (sym c.is_held.ensures ∙ w.if-is_held.true))
      | else-is_held w ↦ omega (arith, w.held-is, c.loop-i.invariant, count_no n v c.loop-i.i (sym c.is_held.ensures ∙ w.if-is_held.false))
    ]

pub returns : goal.returns
returns c =
    let n = entry c.args.self.now.nets.now in
    let v = entry c.args.self.now.dvps.now in
    let e : c.loop-i.i ≡ c.args.self.now.places = omega (arith, c.loop-i.auto.i-end, c.loop-i-test.false) in
    c.loop-i.invariant ∙ ap (λ (i : ℕ). length (records_to n v i)) e ∙ sym (ap length c.args.self.now.all_held)
