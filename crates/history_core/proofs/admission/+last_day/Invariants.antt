use Rattle.std.proofs.Common.{length}
use Rattle.history_core.proofs.admission.+last_day.Given as goal

abbrev pub decreases-last_day : goal.decreases-last_day
decreases-last_day l = length l.accepted.now
