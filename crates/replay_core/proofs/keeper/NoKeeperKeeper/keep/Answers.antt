use Rattle.std.proofs.Common.{inl}
use Rattle.host_core.proofs.Moments.{nothing, widened}
use Rattle.replay_core.proofs.keeper.NoKeeperKeeper.keep.Goals as goal

pub returns-clause-moments : goal.returns-clause-moments
returns-clause-moments g c records held =
    widened (nothing _ (g.met.H.Host.sent_now c.args.host.now)) _ (λ image bytes stays. record { adds = inl stays.was; sent = stays.sent })
