use Rattle.stream_core.proofs.Sending.{sends_none}
use Rattle.engine_core.proofs.reply.acknowledge.Goals as goal

pub returns-then-not-acknowledges-clause-moments : goal.returns-then-not-acknowledges-clause-moments
returns-then-not-acknowledges-clause-moments g c = λ begin text expects. sends_none (g.H.Host.outside c.args.host.now) (g.met.H.Host.sent_now c.args.host.now) _ text expects
