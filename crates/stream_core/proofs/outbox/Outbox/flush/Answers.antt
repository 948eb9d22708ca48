use Rattle.std.proofs.Common.{ap, ◌∙◌, take}
use Rattle.host_core.proofs.Moments.{widened}
use Rattle.stream_core.proofs.Sending.{sends_none, sends_prefix}
use Rattle.stream_core.proofs.outbox.Outbox.flush.Goals as goal

pub returns-then-self-eq0-clause-moments : goal.returns-then-self-eq0-clause-moments
returns-then-self-eq0-clause-moments g c = λ begin text expects. sends_none (g.H.Host.outside c.args.host.now) (g.met.H.Host.sent_now c.args.host.now) _ text expects

pub returns-in_err-map_err-clause-moments : goal.returns-in_err-map_err-clause-moments
returns-in_err-map_err-clause-moments g c = λ begin text expects.
    let waiting = ap (take c.self.inside.count) c.deref.ensures.value ∙ c.self.view_is in
    widened c.send_all.ensures.moments _ (sends_prefix begin (g.H.Host.outside c.args.host.now) _ _ text expects waiting)

pub returns-clause-moments : goal.returns-clause-moments
returns-clause-moments g c = λ begin text expects.
    let waiting = ap (take c.self.inside.count) c.deref.ensures.value ∙ c.self.view_is in
    widened c.send_all.ensures.moments _ (sends_prefix begin (g.H.Host.outside c.args.host.now) _ _ text expects waiting)
