use Rattle.std.proofs.Common.{length}
use Rattle.history_core.proofs.runs.+newest.Given as goal

abbrev pub decreases-newest : goal.decreases-newest
decreases-newest l = length l.h.now
