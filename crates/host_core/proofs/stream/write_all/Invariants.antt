use Rattle.std.proofs.Common.{◌-◌, length}
use Rattle.host_core.proofs.Written.{Written}
use Rattle.host_core.proofs.stream.write_all.Given as goal

abbrev pub invariant-loop-done : goal.invariant-loop-done
invariant-loop-done g l = Written l.piece l.done (g.W.Sink.contents l.initial.sink) (g.W.Sink.contents l.sink) (g.W.Sink.failures l.initial.sink) (g.W.Sink.failures l.sink)

abbrev pub decreases-loop-done : goal.decreases-loop-done
decreases-loop-done g l = length l.piece - l.done
