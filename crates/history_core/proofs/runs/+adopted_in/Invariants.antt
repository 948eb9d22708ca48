use Rattle.std.proofs.Common.{length}
use Rattle.history_core.proofs.runs.+adopted_in.Given as goal

abbrev pub decreases-adopted_in : goal.decreases-adopted_in
decreases-adopted_in l = length l.h.now
