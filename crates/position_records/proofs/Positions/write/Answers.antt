use Rattle.std.proofs.Common.{◌≡◌, ℕ, ◌≤◌, ◌<◌, ◌+◌, length, sym, ap, ◌∙◌, arith, set}
use Rattle.numbers.specs.Put.{put, put_copied}
use Rattle.numbers.specs.Table.{entry}
use Rattle.model.specs.Words.{word}
use Rattle.model.specs.Batch.{batch_words}
use Rattle.model.specs.Netting.{position_count}
use Rattle.model.proofs.HeldRecords.{record_at_place, rewritten_length}
use Rattle.position_records.specs.Places.{records_to, count_none, count_yes, count_no, count_most, written_to, write_none, write_yes, write_no, write_room, write_all}
use Rattle.position_records.proofs.Positions.write.Goals as goal
use Rattle.position_records.proofs.Positions.write.Goals.{Then-is_held, After-loop-i, then-is_held, else-is_held}

-- the record of place i has room behind those before it
room : (c : Then-is_held) → (c.loop-i.count < position_count) × (batch_words (c.loop-i.count + 1) ≤ length c.loop-i.out)
room c =
    let r =
    write_room (entry c.args.self.now.nets.now) (entry c.args.self.now.dvps.now) c.args.self.now.places c.args.self.now.all_held c.args.self.now.places_bound
    c.loop-i.i c.loop-i.count c.loop-i.invariant.count (sym c.is_held.ensures ∙ c.if-is_held.true) c.loop-i-test.true
    in
    (r.0, omega (arith, r.1, c.loop-i.auto.out, c.requires.room))

pub loop-i-init : goal.loop-i-init
loop-i-init c =
    let n = entry c.args.self.now.nets.now in
    let v = entry c.args.self.now.dvps.now in
    record { count = count_none n v; memory = write_none n v c.args.out.now }

pub overflow_mul-at : goal.overflow_mul-at
overflow_mul-at c = record { fits = omega (arith, (room c).0) }

pub overflow_add-at : goal.overflow_add-at
overflow_add-at c = record { fits = omega (arith, (room c).0) }

pub overflow_add-at-then-is_held : goal.overflow_add-at-then-is_held
overflow_add-at-then-is_held c = record { fits = omega (arith, (room c).0) }

pub offset_bounds-out-at : goal.offset_bounds-out-at
offset_bounds-out-at c = omega (arith, (room c).1)

pub slice_bounds-copy_from_slice-end : goal.slice_bounds-copy_from_slice-end
slice_bounds-copy_from_slice-end c = omega (arith, (room c).1)

pub loop-i-preserved : goal.loop-i-preserved
loop-i-preserved c =
    let n = entry c.args.self.now.nets.now in
    let v = entry c.args.self.now.dvps.now in
    let i = c.loop-i.i in
    let m = c.args.out.now in
    let k = c.loop-i.invariant in
    elim c.if-is_held.branch [
      | then-is_held w ↦
          let t = sym c.is_held.ensures ∙ w.if-is_held.true in
          let r = write_room n v c.args.self.now.places c.args.self.now.all_held c.args.self.now.places_bound i c.loop-i.count k.count t c.loop-i-test.true in
          record {
            count = omega (arith, w.count-is, k.count, count_yes n v i t);
            memory =
                w.out-is
                ∙ put_copied (batch_words c.loop-i.count) _ (record_at_place n v i) c.loop-i.out _ (w.copy_from_slice.ensures.after ∙ w.record.ensures) (omega arith)
                ∙ (λ j. put (batch_words (k.count j)) (record_at_place n v i) (k.memory j))
                ∙ write_yes n v m i t (omega (arith, r.1, k.count, count_yes n v i t, c.requires.room));
          }
      | else-is_held w ↦
          let t = sym c.is_held.ensures ∙ w.if-is_held.false in
          record { count = omega (arith, w.count-is, k.count, count_no n v i t); memory = w.out-is ∙ k.memory ∙ write_no n v m i t }
    ]

-- all places are passed
few : (c : After-loop-i) → c.loop-i.count ≤ position_count
few c =
    omega (
      arith,
      c.loop-i.invariant.count,
      count_most (entry c.args.self.now.nets.now) (entry c.args.self.now.dvps.now) c.loop-i.i (omega (arith, c.loop-i.auto.i-end, c.args.self.now.places_bound)),
    )

pub overflow_cast-count : goal.overflow_cast-count
overflow_cast-count c = record { fits = omega (arith, few c) }

pub word-requires : goal.word-requires
word-requires c = omega (arith, few c)

pub bounds-out-0 : goal.bounds-out-0
bounds-out-0 c =
    let n = entry c.args.self.now.nets.now in
    let v = entry c.args.self.now.dvps.now in
    omega (arith, c.loop-i.auto.out, c.requires.room, rewritten_length n v)

pub returns : goal.returns
returns c =
    let n = entry c.args.self.now.nets.now in
    let v = entry c.args.self.now.dvps.now in
    let k = c.loop-i.invariant in
    let e : c.loop-i.i ≡ c.args.self.now.places = omega (arith, c.loop-i.auto.i-end, c.loop-i-test.false) in
    (λ j. set (k.memory j) 0 (c.word.ensures j))
    ∙ ap (λ (i : ℕ). set (written_to n v c.args.out.now i) 0 (word 1 c.loop-i.count)) e
    ∙ write_all n v c.args.self.now.places c.args.self.now.all_held c.args.out.now c.loop-i.count (k.count ∙ ap (λ (i : ℕ). length (records_to n v i)) e) c.requires.room
