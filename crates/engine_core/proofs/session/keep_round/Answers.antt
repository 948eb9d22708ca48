use Rattle.std.proofs.Common.{inl, refl}
use Rattle.host_core.proofs.Moments.{nothing, widened}
use Rattle.engine_core.proofs.Unwritten.{idle}
use Rattle.engine_core.proofs.session.keep_round.Goals as goal

pub returns-then-is_empty-clause-moments : goal.returns-then-is_empty-clause-moments
returns-then-is_empty-clause-moments g c = λ records holds.
    widened (nothing (g.H.Host.outside c.args.host.now) (g.met.H.Host.sent_now c.args.host.now)) _
    (λ image bytes stays. record { adds = inl (g.K.Keeper.recovers_now c.args.keeper.now records _ image holds stays.was); sent = stays.sent })

pub returns-then-is_empty-clause-nothing : goal.returns-then-is_empty-clause-nothing
returns-then-is_empty-clause-nothing g c = λ none. idle (g.H.Host.outside c.args.host.now) (g.met.H.Host.sent_now c.args.host.now)

pub returns-then-is_empty-clause-few : goal.returns-then-is_empty-clause-few
returns-then-is_empty-clause-few g c = rw c.accepted-batch.ensures.accepted at c.accepted-batch.ensures.few

pub returns-then-is_empty-clause-touches : goal.returns-then-is_empty-clause-touches
returns-then-is_empty-clause-touches g c = g.K.Keeper.untouched _ _ _ refl refl

pub returns-clause-few : goal.returns-clause-few
returns-clause-few g c = rw c.accepted-batch.ensures.accepted at c.accepted-batch.ensures.few

pub returns-clause-touches : goal.returns-clause-touches
returns-clause-touches g c = g.K.Keeper.touches_more _ _ _ _ (rw (← c.deref.ensures.value) at c.accepted-batch.ensures.few) c.keep.ensures.touches
