use Rattle.std.proofs.Common.{◌-◌, length}
use Rattle.host_core.proofs.Pieces.{Writing}
use Rattle.host_core.proofs.whole.write_whole.Given as goal

abbrev pub invariant-loop-done : goal.invariant-loop-done
invariant-loop-done g l = Writing l.at l.piece l.done (g.T.RawFile.state l.initial.file) (g.T.RawFile.state l.file)

abbrev pub decreases-loop-done : goal.decreases-loop-done
decreases-loop-done g l = length l.piece - l.done
