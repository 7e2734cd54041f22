use borrow.Rule.Slice.PartMut.{mid_of}
use Rattle.std.proofs.Common.{rules, ◌≡◌, length, ℕ, ◌+◌, ◌-◌, ◌*◌, ◌<◌, ◌≤◌, List, [], ◌++◌, ap, get_or, take, arith, sym, ◌∙◌, drop, length-drop}
use Rattle.model.specs.Calls.{answer, memory_after}
use Rattle.model.specs.ManyAccounts.{answer_for, batch_of, memory_to, pair_of, result_numbers, words_before, words_in}
use Rattle.model.proofs.ManyAccounts.{AccountsRows, before-none, before_mono, before_more, memory-long, memory-none, memory_more, results_more, results_none, start_fits, start_more, start_most, start_none}
use Rattle.numbers.specs.Put.{put, rest_is, rest_part}
use Rattle.accounts.proofs.report_all.Goals as goal
use Rattle.accounts.proofs.report_all.Goals.{After-words_in-at}

-- the batch of account i lies inside, and is the part of so many words
inside : (bs ns : List ℕ) (k i from : ℕ) → AccountsRows bs ns k → i < length ns → from ≡ words_before ns i → from + get_or ns i 0 ≤ length bs
inside bs ns k i from rows h e = omega (arith, e, before_more ns i, before_mono ns (i + 1) (length ns) (omega (arith, h)), rows.sum)

part : (bs ns : List ℕ) (i from : ℕ) → from ≡ words_before ns i → take ((from + get_or ns i 0) - from) (drop from bs) ≡ batch_of bs ns i
part bs ns i from e = let z : (from + get_or ns i 0) - from ≡ get_or ns i 0 = omega arith in λ j. take (z j) (drop (e j) bs)

-- the memory still left
left : (d m l : List ℕ) (b : ℕ → List ℕ) (i : ℕ) → l ≡ memory_to d b m i → length l ≡ length m
left d m l b i e = ap length e ∙ memory-long d b m i

pub loop-i-init : goal.loop-i-init
loop-i-init c =
    let d = c.args.day.now.words.now in
    let b = batch_of c.args.batches.now c.args.lengths.now in
    let m = c.args.memory.now in
    (sym (before-none c.args.lengths.now), sym (start_none d b (length m)), sym (results_none d b (length m) c.args.results.now), sym (memory-none d b m))

pub overflow_add-from : goal.overflow_add-from
overflow_add-from c =
    let h = inside c.args.batches.now c.args.lengths.now _ c.loop-i.i c.loop-i.from c.requires (omega arith) c.loop-i.invariant.0 in search rules

pub offset_bounds-batches-from : goal.offset_bounds-batches-from
offset_bounds-batches-from c =
    let h = inside c.args.batches.now c.args.lengths.now _ c.loop-i.i c.loop-i.from c.requires (omega arith) c.loop-i.invariant.0 in search rules

pub slice_bounds-turn-end : goal.slice_bounds-turn-end
slice_bounds-turn-end c =
    let h = inside c.args.batches.now c.args.lengths.now _ c.loop-i.i c.loop-i.from c.requires (omega arith) c.loop-i.invariant.0 in search rules

pub offset_bounds-memory-at : goal.offset_bounds-memory-at
offset_bounds-memory-at c =
    let b = batch_of c.args.batches.now c.args.lengths.now in
    record { fits = omega (arith, c.loop-i.invariant.1, start_most c.args.day.now.words.now b (length c.args.memory.now) c.loop-i.i, c.loop-i-test.true, c.requires.few) }

pub slice_bounds-turn-count-in-loop-i : goal.slice_bounds-turn-count-in-loop-i
slice_bounds-turn-count-in-loop-i c =
    let d = c.args.day.now.words.now in
    let b = batch_of c.args.batches.now c.args.lengths.now in
    let m = c.args.memory.now in
    omega (arith, c.loop-i.invariant.1, start_fits d b (length m) c.loop-i.i, left d m c.loop-i.memory b c.loop-i.i c.loop-i.invariant.3)

pub slice_bounds-turn-start-in-loop-i : goal.slice_bounds-turn-start-in-loop-i
slice_bounds-turn-start-in-loop-i c =
    let d = c.args.day.now.words.now in
    let b = batch_of c.args.batches.now c.args.lengths.now in
    let m = c.args.memory.now in
    let h : c.loop-i.at ≤ length c.loop-i.memory = omega (arith, c.loop-i.invariant.1, start_fits d b (length m) c.loop-i.i, left d m c.loop-i.memory b c.loop-i.i c.loop-i.invariant.3) in
    search rules

-- the answer to account i is the single call's, and the words that it wrote
answered : (c : After-words_in-at) → c.turn-answer.result ≡ answer_for c.args.day.now.words.now (batch_of c.args.batches.now c.args.lengths.now) (length c.args.memory.now) c.loop-i.i
answered c =
    let d = c.args.day.now.words.now in
    let b = batch_of c.args.batches.now c.args.lengths.now in
    let l = c.loop-i in
    let own = part c.args.batches.now c.args.lengths.now l.i l.from l.invariant.0 in
    let long = left d c.args.memory.now l.memory b l.i l.invariant.3 in
    c.turn-answer.ensures.0 ∙ (λ j. answer d (own j) [] ((ap length (rest_is l.at l.memory) ∙ length-drop l.at l.memory) j)) ∙ (λ j. answer d (b l.i) [] (long j - l.invariant.1 j))

pub overflow_add-at : goal.overflow_add-at
overflow_add-at c =
    let d = c.args.day.now.words.now in
    let ns = c.args.lengths.now in
    let b = batch_of c.args.batches.now ns in
    let m = c.args.memory.now in
    let l = c.loop-i in
    let words_are = c.words_in-at.ensures ∙ ap words_in (answered (goal.at.overflow_add-at c).After-words_in-at) in
    record { fits = omega (arith, words_are, l.invariant.1, start_more d b (length m) l.i, start_most d b (length m) (l.i + 1), c.loop-i-test.true, c.requires.few) }

pub loop-i-preserved : goal.loop-i-preserved
loop-i-preserved c =
    let d = c.args.day.now.words.now in
    let ns = c.args.lengths.now in
    let b = batch_of c.args.batches.now ns in
    let m = c.args.memory.now in
    let l = c.loop-i in
    let answer_is = answered (goal.at.loop-i-preserved c).After-words_in-at in
    let own = part c.args.batches.now ns l.i l.from l.invariant.0 in
    let rs = c.args.results.now in (
      ap (λ (f : ℕ). f + get_or ns l.i 0) l.invariant.0 ∙ sym (before_more ns l.i),
      (λ j. l.invariant.1 j + (c.words_in-at.ensures ∙ ap words_in answer_is) j) ∙ sym (start_more d b (length m) l.i),
      c.turn-answer.ensures.1
          ∙ (λ j. put (result_numbers * l.i) (pair_of (answer_is j)) (l.invariant.2 j))
          ∙ sym (results_more d b (length m) rs l.i),
      rest_part l.at l.memory _ (memory_after d (b l.i) [])
          (c.turn-answer.ensures.2 ∙ (λ j. memory_after d (own j) [] (mid_of l.at (length l.memory - l.at) l.memory)))
          ∙ (λ j. take (l.invariant.1 j) (l.invariant.3 j) ++ memory_after d (b l.i) [] (drop (l.invariant.1 j) (l.invariant.3 j)))
          ∙ sym (memory_more d b m l.i),
    )
