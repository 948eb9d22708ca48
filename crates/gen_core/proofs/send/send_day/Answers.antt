use Rattle.std.proofs.Common.{sym, subst}
use Rattle.host_core.specs.declared.status.Status.{Status}
use Rattle.gen_core.specs.Generated.{generated}
use Rattle.gen_core.specs.Sent.{frames_of, SendsText}
use Rattle.gen_core.proofs.Sending.{sends_text}
use Rattle.gen_core.proofs.send.send_day.Goals as goal

pub returns : goal.returns
returns g c =
    subst (λ (s : Status). SendsText (frames_of (generated c.args.plan.now)) s (g.H.Host.outside c.args.host.now) (g.H.Host.outside c.send_frames.new.host)) (sym c.answer_of.ensures)
    (sends_text (frames_of (generated c.args.plan.now)) c.send_frames.result (g.H.Host.outside c.args.host.now) (g.H.Host.outside c.send_frames.new.host)
    (g.met.H.Host.sent_now c.send_frames.new.host) (g.met.H.Host.stops_now c.send_frames.new.host) c.send_frames.ensures.moments
    c.send_frames.ensures.done c.send_frames.ensures.sent c.send_frames.ensures.outside c.send_frames.ensures.unsent)
