use Rattle.std.proofs.Common.{length}
use Rattle.history_core.proofs.history.+now.Given as goal

abbrev pub decreases-now : goal.decreases-now
decreases-now l = length l.h.now
