use Rattle.std.proofs.Common.{length}
use Rattle.history_core.proofs.history.+count_today.Given as goal

abbrev pub decreases-count_today : goal.decreases-count_today
decreases-count_today l = length l.h.now
