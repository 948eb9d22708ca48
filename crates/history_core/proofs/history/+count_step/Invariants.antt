use Rattle.std.proofs.Common.{length}
use Rattle.history_core.proofs.history.+count_step.Given as goal

abbrev pub decreases-count_step : goal.decreases-count_step
decreases-count_step l = length l.h.now
