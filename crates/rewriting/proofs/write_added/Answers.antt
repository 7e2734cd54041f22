use Rattle.std.proofs.Common.{◌≡◌, ◌≤◌, ◌∷◌, [], ◌+◌, ◌-◌, List, ℕ, length, drop, set, ap, ◌∙◌, arith, length-drop, length-set}
use Rattle.numbers.specs.Put.{put, put_one, put_copied, put-put, put-length, rest_is}
use borrow.Rule.Slice.PartMut.{put_mid}
use Rattle.model.specs.Limits.{most_records}
use Rattle.model.specs.Words.{word}
use Rattle.model.specs.Batch.{record_count, batch_words}
use Rattle.model.specs.Rewriting.{added}
use Rattle.model.proofs.Added.{Parts, added_length}
use Rattle.model.proofs.Limits.{row20_count, row21-length}
use Rattle.rewriting.proofs.write_added.Goals as goal
use Rattle.rewriting.proofs.write_added.Goals.{After-copy_from_slice}

-- the batch as given is whole, and has few records
whole : (b w : List ℕ) → Parts b w → (length b ≡ batch_words (record_count b)) × (record_count b ≤ most_records)
whole b w h = (row21-length b h.at21, row20_count b h.at20)

pub word-requires : goal.word-requires
word-requires c = let e = whole c.args.batch.now c.args.record.now c.requires.parts in omega (arith, c.record_count.ensures, e.1)

pub slice_bounds-copy_from_slice-count : goal.slice_bounds-copy_from_slice-count
slice_bounds-copy_from_slice-count c = let e = whole c.args.batch.now c.args.record.now c.requires.parts in omega (arith, e.0, e.1, c.requires.room)

pub slice_bounds-copy_from_slice-start : goal.slice_bounds-copy_from_slice-start
slice_bounds-copy_from_slice-start c = let e = whole c.args.batch.now c.args.record.now c.requires.parts in omega (arith, e.0, e.1, c.requires.room)

pub slice_bounds-copy_from_slice-end : goal.slice_bounds-copy_from_slice-end
slice_bounds-copy_from_slice-end c =
    let e = whole c.args.batch.now c.args.record.now c.requires.parts in omega (arith, e.0, e.1, c.requires.room, length-set c.args.out.now 0 c.word.result)

pub slice_bounds-copy_from_slice-count-2 : goal.slice_bounds-copy_from_slice-count-2
slice_bounds-copy_from_slice-count-2 c = let e = whole c.args.batch.now c.args.record.now c.requires.parts in omega (arith, e.0, e.1, c.requires.room)

pub slice_bounds-copy_from_slice-start-2 : goal.slice_bounds-copy_from_slice-start-2
slice_bounds-copy_from_slice-start-2 c = let e = whole c.args.batch.now c.args.record.now c.requires.parts in omega (arith, e.0, e.1, c.requires.room)

-- the batch's records behind the header
records_put : (c : After-copy_from_slice)
    → put_mid 1 (length c.args.batch.now - 1) (set c.args.out.now 0 c.word.result) c.copy_from_slice.new.self ≡ put 1 (drop 1 c.args.batch.now) (set c.args.out.now 0 c.word.result)
records_put c =
    let b = c.args.batch.now in
    put_copied 1 _ (drop 1 b) _ _ (c.copy_from_slice.ensures.after ∙ rest_is 1 b) (omega (arith, length-drop 1 b))

pub slice_bounds-copy_from_slice-end-3 : goal.slice_bounds-copy_from_slice-end-3
slice_bounds-copy_from_slice-end-3 c =
    let b = c.args.batch.now in
    let m = set c.args.out.now 0 c.word.result in
    let e = whole b c.args.record.now c.requires.parts in
    let body : length (drop 1 b) + 1 ≡ length b = omega (arith, length-drop 1 b, e.0) in
    let long = length-set c.args.out.now 0 c.word.result in
    omega (
      arith,
      e.0,
      e.1,
      c.requires.room,
      ap length (records_put (goal.at.slice_bounds-copy_from_slice-end-3 c).After-copy_from_slice),
      put-length 1 (drop 1 b) m (omega (arith, body, e.0, e.1, c.requires.room, long)),
      long,
    )

pub returns : goal.returns
unfolding added
returns c =
    let b = c.args.batch.now in
    let w = c.args.record.now in
    let m = c.args.out.now in
    let h = word 1 (record_count b + 1) in
    let e = whole b w c.requires.parts in
    let body : length (drop 1 b) + 1 ≡ length b = omega (arith, length-drop 1 b, e.0) in
    record {
      value = omega (arith, added_length b w c.requires.parts);
      out_after =
          put_copied (length b) _ w _ _ c.copy_from_slice-2.ensures.after (omega (arith, c.requires.parts.six))
          ∙ ap (put (length b) w)
          (records_put (goal.at.returns c).After-copy_from_slice
          ∙ ap (put 1 (drop 1 b)) (ap (set m 0) (c.word.ensures ∙ (λ i. word 1 (c.record_count.ensures i + 1))) ∙ put_one m 0 h (omega (arith, c.requires.room)))
          ∙ put-put 0 (h ∷ []) (drop 1 b) m 1 (omega arith) (omega (arith, body, e.0, e.1, c.requires.room)))
          ∙ put-put 0 (h ∷ drop 1 b) w m (length b) (omega (arith, body)) (omega (arith, e.0, e.1, c.requires.parts.six, c.requires.room));
    }
