use Rattle.std.proofs.Common.{refl, ⊎_elim}
use Rattle.model.specs.Steps.Minimum.{minimum_rate}
use Rattle.minimum.proofs.minimum_rate.Goals as goal

pub returns-in-Future : goal.returns-in-Future
unfolding minimum_rate
returns-in-Future c = rw c.in-Future.is c.future_rate.ensures

pub returns-in-Call : goal.returns-in-Call
unfolding minimum_rate
returns-in-Call c = ⊎_elim (λ e. rw e c.option_rate.ensures) (λ e. rw e c.option_rate.ensures) c.in-Call.is

pub returns-in-Equity : goal.returns-in-Equity
unfolding minimum_rate
returns-in-Equity c = rw c.in-Equity.is c.equity_rate.ensures

pub returns-in-Warrant : goal.returns-in-Warrant
unfolding minimum_rate
returns-in-Warrant c = rw c.in-Warrant.is c.warrant_rate.ensures

pub returns-in-Rights : goal.returns-in-Rights
unfolding minimum_rate
returns-in-Rights c = rw c.in-Rights.is c.rights_rate.ensures

pub returns-in-ExpiredFuture : goal.returns-in-ExpiredFuture
unfolding minimum_rate
returns-in-ExpiredFuture c = rw c.in-ExpiredFuture.is refl
