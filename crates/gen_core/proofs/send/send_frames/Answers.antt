use Rattle.stream_core.proofs.Sending.{sends_same}
use Rattle.std.proofs.Common.{ap}
use Rattle.gen_core.specs.Sent.{frames_of}
use Rattle.gen_core.proofs.Sending.{nothing_sent}
use Rattle.gen_core.proofs.send.send_frames.Goals as goal

pub returns-in_err-generator-clause-moments : goal.returns-in_err-generator-clause-moments
returns-in_err-generator-clause-moments g c = nothing_sent (g.H.Host.outside c.args.host.now) (g.met.H.Host.sent_now c.args.host.now) _

pub returns-in_err-outbox-clause-moments : goal.returns-in_err-outbox-clause-moments
returns-in_err-outbox-clause-moments g c = nothing_sent (g.H.Host.outside c.args.host.now) (g.met.H.Host.sent_now c.args.host.now) _

pub returns-clause-moments : goal.returns-clause-moments
returns-clause-moments g c = sends_same _ _ (ap frames_of c.in_ok-generator.ensures.day) c.send_rest.ensures.moments
