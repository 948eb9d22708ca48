use Rattle.std.proofs.Common.{◌-◌, length}
use Rattle.detail_core.proofs.slip.bad_line_in.Given as goal

abbrev pub decreases-loop-at : goal.decreases-loop-at
decreases-loop-at l = length l.piece - l.at
