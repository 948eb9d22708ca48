use Rattle.std.proofs.Common.{◌-◌, length}
use Rattle.host_core.proofs.Sending.{Sending}
use Rattle.host_core.proofs.send.send_all.Given as goal

abbrev pub invariant-loop-done : goal.invariant-loop-done
invariant-loop-done g l = Sending l.piece l.done (g.H.Host.outside l.initial.host) (g.H.Host.outside l.host)

abbrev pub decreases-loop-done : goal.decreases-loop-done
decreases-loop-done g l = length l.piece - l.done
