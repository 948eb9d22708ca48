use Rattle.std.proofs.Common.{length}
use Rattle.history_core.proofs.runs.+begun_in.Given as goal

abbrev pub decreases-begun_in : goal.decreases-begun_in
decreases-begun_in l = length l.h.now
