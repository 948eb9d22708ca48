use Rattle.std.proofs.Common.{refl}
use Rattle.stream_core.proofs.Sending.{sends_none, sends_longer}
use Rattle.engine_core.proofs.reply.append_messages.Goals as goal

pub returns-then-is_empty-clause-moments : goal.returns-then-is_empty-clause-moments
returns-then-is_empty-clause-moments g c = λ begin text expects.
    sends_longer text _ _ refl (sends_none (g.H.Host.outside c.args.host.now) (g.met.H.Host.sent_now c.args.host.now) _ text expects)
