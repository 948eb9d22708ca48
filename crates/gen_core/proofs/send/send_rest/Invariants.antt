use Rattle.std.proofs.Common.{length}
use Rattle.gen_core.specs.Sent.{frames_of}
use Rattle.gen_core.specs.InternalSending.{Sending}
use Rattle.gen_core.proofs.send.send_rest.Given as goal

abbrev pub invariant-loop-record : goal.invariant-loop-record
invariant-loop-record g l = Sending (frames_of l.initial.generator) l.outbox l.generator (g.H.Host.outside l.initial.host) (g.H.Host.outside l.host)

abbrev pub decreases-loop-record : goal.decreases-loop-record
decreases-loop-record g l = length l.generator
