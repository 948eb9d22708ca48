use Rattle.std.proofs.Common.{◌-◌, length}
use Rattle.host_core.proofs.Pieces.{Reading}
use Rattle.host_core.proofs.whole.read_whole.Given as goal

abbrev pub invariant-loop-done : goal.invariant-loop-done
invariant-loop-done g l = Reading l.at (length l.initial.into) l.into l.done (g.T.RawFile.state l.initial.file) (g.T.RawFile.state l.file)

abbrev pub decreases-loop-done : goal.decreases-loop-done
decreases-loop-done g l = length l.into - l.done
