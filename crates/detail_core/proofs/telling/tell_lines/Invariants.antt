use Rattle.std.proofs.Common.{◌-◌, length}
use Rattle.detail_core.proofs.Parts.{Told}
use Rattle.detail_core.proofs.telling.tell_lines.Given as goal

abbrev pub invariant-loop-done : goal.invariant-loop-done
invariant-loop-done g l = Told l.text l.done (g.W.Sink.contents l.initial.sink) (g.W.Sink.contents l.sink) (g.W.Sink.failures l.initial.sink) (g.W.Sink.failures l.sink)

abbrev pub decreases-loop-done : goal.decreases-loop-done
decreases-loop-done g l = length l.text - l.done
