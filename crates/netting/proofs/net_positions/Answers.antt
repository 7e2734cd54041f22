use Rattle.std.proofs.Common.{◌≡◌, ◌<◌, ap, ◌∙◌, arith}
use Rattle.numbers.specs.Abs.{told}
use Rattle.numbers.specs.Slots.{slots, slots-none}
use Rattle.model.specs.Batch.{record_count, key, dvp_amount}
use Rattle.model.specs.Netting.{net, dvp, position_count}
use Rattle.netting.specs.Laws.{change, slot_inside, slot_added, slot_fits, change_limit}
use Rattle.netting.proofs.net_positions.Goals as goal

pub loop-r-init : goal.loop-r-init
loop-r-init c =
    let b = c.args.batch.now.words.now in
    record { nets = c.requires.nets_value ∙ slots-none position_count (key b) (change b); dvps = c.requires.dvps_value ∙ slots-none position_count (key b) (dvp_amount b) }

pub add_at-requires : goal.add_at-requires
add_at-requires c =
    let b = c.args.batch.now.words.now in
    let below : c.loop-r.r < record_count b = omega (arith, c.record_count-r-end.ensures) in
    let v = c.record-record.ensures in
    let key_is = rw (v.0, v.1) at c.key-k.ensures in
    let z = told c.change.type_inv (rw (v.0, v.1) at c.change.ensures) in
    record {
      k_in_bounds = slot_inside position_count (key b) (change b) c.loop-r.nets c.loop-r.r c.key-k.result _ c.loop-r.invariant.nets key_is z (omega arith);
      sfits =
          slot_fits position_count (key b) (change b) c.loop-r.nets c.loop-r.r c.key-k.result _ c.loop-r.invariant.nets key_is z (omega arith)
          (record_count b) below c.args.batch.now.limited.few (change_limit b c.args.batch.now.limited);
    }

pub add_at-requires-in-loop-r : goal.add_at-requires-in-loop-r
add_at-requires-in-loop-r c =
    let b = c.args.batch.now.words.now in
    let below : c.loop-r.r < record_count b = omega (arith, c.record_count-r-end.ensures) in
    let v = c.record-record.ensures in
    let key_is = rw (v.0, v.1) at c.key-k.ensures in
    let z = told c.dvp_amount.type_inv (rw (v.0, v.1) at c.dvp_amount.ensures) in
    record {
      k_in_bounds = slot_inside position_count (key b) (dvp_amount b) c.loop-r.dvps c.loop-r.r c.key-k.result _ c.loop-r.invariant.dvps key_is z (omega arith);
      sfits =
          slot_fits position_count (key b) (dvp_amount b) c.loop-r.dvps c.loop-r.r c.key-k.result _ c.loop-r.invariant.dvps key_is z (omega arith)
          (record_count b) below c.args.batch.now.limited.few c.args.batch.now.limited.dvps;
    }

pub loop-r-preserved : goal.loop-r-preserved
loop-r-preserved c =
    let b = c.args.batch.now.words.now in
    let v = c.record-record.ensures in
    let key_is = rw (v.0, v.1) at c.key-k.ensures in record {
      nets = c.add_at.ensures
          ∙ slot_added position_count (key b) (change b) c.loop-r.nets c.loop-r.r c.key-k.result _ c.loop-r.invariant.nets key_is
          (told c.change.type_inv (rw (v.0, v.1) at c.change.ensures)) (omega arith);
      dvps = c.add_at-in-loop-r.ensures
          ∙ slot_added position_count (key b) (dvp_amount b) c.loop-r.dvps c.loop-r.r c.key-k.result _ c.loop-r.invariant.dvps key_is
          (told c.dvp_amount.type_inv (rw (v.0, v.1) at c.dvp_amount.ensures)) (omega arith);
    }

pub returns : goal.returns
unfolding net dvp
returns c =
    let b = c.args.batch.now.words.now in
    let e : c.loop-r.r ≡ record_count b = omega (arith, c.record_count-r-end.ensures) in
    record {
      nets_after = c.loop-r.invariant.nets ∙ ap (slots position_count (key b) (change b)) e;
      dvps_after = c.loop-r.invariant.dvps ∙ ap (slots position_count (key b) (dvp_amount b)) e;
    }
