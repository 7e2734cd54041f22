use Rattle.std.proofs.Common.{◌≡◌, false, sym, ◌∙◌, refl, arith}
use Rattle.numbers.specs.Tests.{or_left}
use Rattle.model.specs.Locality.{record_at}
use Rattle.model.proofs.GoodRecord.{bad}
use Rattle.model.proofs.Limits.{place_limit}
use Rattle.day_steps.specs.OneStep.{own_addable, step_kept}
use Rattle.day_steps.specs.Step.{step_refused}
use Rattle.kept_account.specs.Accounts.{nets_of, dvps_of, moved_some}
use Rattle.kept_account.specs.Positions.{one_rows}
use Rattle.kept_account.proofs.account.Account.add.Goals as goal
use Rattle.kept_account.proofs.account.Account.add.Goals.{In-Some}

-- the trade is not refused
passes : (c : In-Some) → step_refused c.args.day.now.words.now (nets_of c.args.self.now) (dvps_of c.args.self.now) (record_at c.args.trade.now.words.now 0) ≡ false
passes c =
    (moved_some c.args.day.now.words.now (nets_of c.args.self.now) (dvps_of c.args.self.now) (record_at c.args.trade.now.words.now 0) c.in-Some.moved (sym c.moved.ensures ∙ c.in-Some.is)).0

pub store-requires-clause-place_bound : goal.store-requires-clause-place_bound
unfolding step_refused
store-requires-clause-place_bound c =
    let d = c.args.day.now.words.now in
    let b = c.args.trade.now.words.now in
    let good : bad d (record_at b 0) ≡ false = or_left (bad d (record_at b 0)) _ (passes (goal.at.store-requires-clause-place_bound c).In-Some) in
    rw (c.record.ensures.0, c.record.ensures.1) (place_limit d b (one_rows d b c.requires.one good) 0 (omega (arith, c.requires.one)))

pub store-requires-clause-kept : goal.store-requires-clause-kept
store-requires-clause-kept c =
    let d = c.args.day.now.words.now in
    let n = nets_of c.args.self.now in
    let v = dvps_of c.args.self.now in
    let w = record_at c.args.trade.now.words.now 0 in
    let k = c.requires.whole.kept in
    rw (c.record.ensures.0, c.record.ensures.1) (step_kept d n v k w (own_addable d n v k w refl (passes (goal.at.store-requires-clause-kept c).In-Some)))
