use Rattle.std.proofs.Common.{rules, ◌≡◌, ℕ, ◌+◌, ◌-◌, ◌≤◌, length, List, arith, sym, ap, take, drop, ◌∙◌}
use Rattle.model.specs.TextReading.{line_bytes, lines_bytes}
use Rattle.text_parts.proofs.lines.lines_bytes.Goals as goal
use Rattle.text_parts.specs.ReadingSteps.{lines_more}
use Rattle.text_parts.specs.ReadingSteps.{lines_none}
use Rattle.text_parts.specs.ReadingSteps.{lines_within}
use Rattle.text_parts.specs.ReadingSteps.{part}

-- the bytes so far, with one line more
more : (t : List ℕ) (at k n : ℕ) → at ≡ lines_bytes t k → n ≡ line_bytes (take (length t - at) (drop at t)) → at + n ≡ lines_bytes t (k + 1)
more t at k n a e = omega (arith, e, ap line_bytes (part at t), lines_more t k, ap (λ (i : ℕ). line_bytes (drop i t)) a)

pub loop-init : goal.loop-init
loop-init c = sym (lines_none c.args.text.now)

pub slice_bounds-line_bytes-count : goal.slice_bounds-line_bytes-count
slice_bounds-line_bytes-count c = omega (arith, lines_within c.args.text.now c.loop.counter)

pub slice_bounds-line_bytes-start : goal.slice_bounds-line_bytes-start
slice_bounds-line_bytes-start c =
    let h : c.loop.at ≤ length c.args.text.now = omega (arith, lines_within c.args.text.now c.loop.counter) in
    search rules

pub overflow_add-at : goal.overflow_add-at
overflow_add-at c =
    let t = c.args.text.now in
    let e = more t c.loop.at c.loop.counter c.line_bytes-at.result c.loop.invariant c.line_bytes-at.ensures in
    let h = lines_within t (c.loop.counter + 1) in
    search rules

pub loop-preserved : goal.loop-preserved
loop-preserved c =
    more c.args.text.now c.loop.at c.loop.counter c.line_bytes-at.result c.loop.invariant c.line_bytes-at.ensures

pub returns : goal.returns
returns c =
    let t = c.args.text.now in
    let e : c.loop.at ≡ lines_bytes t c.args.n = c.loop.invariant ∙ ap (lines_bytes t) (omega arith) in
    record { value = e; within = omega (arith, e, lines_within t c.args.n) }
