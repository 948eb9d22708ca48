use Rattle.gen_core.proofs.Sending.{sends_text}
use Rattle.rehearse_core.specs.Rehearsed.{summary_of}
use Rattle.rehearse_core.proofs.rehearsal.rehearse.Goals as goal

pub returns : goal.returns
returns g c =
    let run = c.sum_up.ensures in
    rw c.answer_of.ensures (sends_text (summary_of c.args.plan.now) c.sum_up.result (g.H.Host.outside c.args.host.now) (g.H.Host.outside c.sum_up.new.host)
    (g.met.H.Host.sent_now c.sum_up.new.host) (g.met.H.Host.stops_now c.sum_up.new.host) run.moments run.done run.sent run.outside run.unsent)
