use Rattle.std.proofs.Common.{length}
use Rattle.history_core.proofs.history.+before_step.Given as goal

abbrev pub decreases-before_step : goal.decreases-before_step
decreases-before_step l = length l.h.now
