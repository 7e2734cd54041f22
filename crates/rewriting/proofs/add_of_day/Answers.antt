use Rattle.std.specs.Prelude.{Ok, Err}
use Rattle.std.proofs.Common.{rules, ◌≡◌, List, ℕ, length, drop, take, sym, ap, ◌∙◌, arith}
use Rattle.std.proofs.Math.Seq.{take-append_seam}
use Rattle.numbers.specs.Put.{put, put_front}
use Rattle.model.specs.Calls.{outcome, written}
use Rattle.model.specs.Rewriting.{rewriting, added}
use Rattle.model.proofs.Added.{Parts, parts_of, added_few, added_length, added_whole}
use Rattle.model.proofs.Limits.{row20_count, row21-length}
use Rattle.model.proofs.Verdicts.{tried-passed}
use Rattle.classes.specs.Checked.{checked_passed}
use Rattle.rewriting.specs.Stages.{lengths_check, added_check, add_lengths, add_rows, add_leaves}
use Rattle.rewriting.proofs.add_of_day.Goals as goal
use Rattle.rewriting.proofs.add_of_day.Goals.{After-write_added-n}

pub returns-in_err-check_lengths : goal.returns-in_err-check_lengths
returns-in_err-check_lengths c =
    let d = c.args.day.now.words.now in
    let b = c.args.batch.now in
    let w = c.args.record.now in
    let m = c.args.memory.now in
    let k = c.in_err-check_lengths.field-0.0 in
    let e = add_lengths d b w (length m) (checked_passed d c.args.day.now.checked) k (sym c.check_lengths.ensures ∙ c.in_err-check_lengths.was) in
    record { value = search rules ∙ e; memory_after = add_leaves d b w m (Err k) e }

-- rows 20 and 21 passed
parts : (b w : List ℕ) → lengths_check b w ≡ Ok tt → Parts b w
parts b w e = let z = tried-passed _ e in parts_of b w z.0 z.1.0

-- the words written are those of the batch with its record
front : (b w out m : List ℕ) (n : ℕ) → n ≡ length (added b w) → out ≡ put 0 (added b w) m → take n out ≡ added b w
front b w out m n e q = (λ i. take (e i) ((q ∙ put_front (added b w) m) i)) ∙ take-append_seam (added b w) (drop (length (added b w)) m)

pub write_added-n-requires-clause-parts : goal.write_added-n-requires-clause-parts
write_added-n-requires-clause-parts c = parts c.args.batch.now c.args.record.now (sym c.check_lengths.ensures ∙ c.in_ok-check_lengths.was)

-- they have room
pub slice_bounds-words-end : goal.slice_bounds-words-end
slice_bounds-words-end c =
    let b = c.args.batch.now in
    let w = c.args.record.now in
    let h = parts b w (sym c.check_lengths.ensures ∙ c.in_ok-check_lengths.was) in
    omega (arith, c.write_added-n.ensures.value, c.write_added-n.auto.out, added_length b w h, row20_count b h.at20, row21-length b h.at21)

-- the words of the batch with its record, as they are lent on
words_are : (c : After-write_added-n) → take c.write_added-n.result c.write_added-n.new.out ≡ added c.args.batch.now c.args.record.now
words_are c = front c.args.batch.now c.args.record.now c.write_added-n.new.out _ c.write_added-n.result c.write_added-n.ensures.value c.write_added-n.ensures.out_after

pub slice_bounds-rewrite_added-end : goal.slice_bounds-rewrite_added-end
slice_bounds-rewrite_added-end c = omega (arith, c.write_added-n.ensures.value, ap length (words_are (goal.at.slice_bounds-rewrite_added-end c).After-write_added-n))

pub invariant_of-rewrite_added : goal.invariant_of-rewrite_added
invariant_of-rewrite_added c =
    let b = c.args.batch.now in
    let w = c.args.record.now in
    let h = parts b w (sym c.check_lengths.ensures ∙ c.in_ok-check_lengths.was) in
    record { whole = rw (words_are (goal.at.invariant_of-rewrite_added c).After-write_added-n) (added_whole b w h) }

pub rewrite_added-requires : goal.rewrite_added-requires
rewrite_added-requires c =
    let b = c.args.batch.now in
    let w = c.args.record.now in
    let h = parts b w (sym c.check_lengths.ensures ∙ c.in_ok-check_lengths.was) in
    rw (words_are (goal.at.rewrite_added-requires c).After-write_added-n) (added_few b w h)

pub returns : goal.returns
returns c =
    let d = c.args.day.now.words.now in
    let b = c.args.batch.now in
    let w = c.args.record.now in
    let m = c.args.memory.now in
    let passed = sym c.check_lengths.ensures ∙ c.in_ok-check_lengths.was in
    let f = words_are (goal.at.returns c).After-write_added-n in
    let e =
    c.rewrite_added.ensures.value
    ∙ (λ i. outcome (added_check d (f i)) (length (rewriting (f i))) (length m))
    ∙ add_rows d b w (length m) (checked_passed d c.args.day.now.checked) passed
    in
    record {
      value = e;
      memory_after = c.rewrite_added.ensures.memory_after ∙ (λ i. written c.rewrite_added.result (rewriting (f i)) m) ∙ add_leaves d b w m c.rewrite_added.result e;
    }
