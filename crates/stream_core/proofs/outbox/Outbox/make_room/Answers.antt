use Rattle.stream_core.proofs.Pending.{on_ok2, expects_nothing}
use Rattle.stream_core.proofs.Sending.{sends_none}
use Rattle.stream_core.proofs.outbox.Outbox.make_room.Goals as goal

pub returns-then-self-le-CAPACITY-clause-moments : goal.returns-then-self-le-CAPACITY-clause-moments
returns-then-self-le-CAPACITY-clause-moments g c = λ begin text expects. sends_none (g.H.Host.outside c.args.host.now) (g.met.H.Host.sent_now c.args.host.now) _ text expects

pub returns-clause-pending : goal.returns-clause-pending
returns-clause-pending g c = λ begin text expects. on_ok2 c.flush.result c.flush.ensures.empty (c.flush.ensures.sent begin text expects) (expects_nothing begin _ _ text)
