use Rattle.std.proofs.Common.{length}
use Rattle.afresh_core.proofs.restriction.+before_day.Given as goal

abbrev pub decreases-before_day : goal.decreases-before_day
decreases-before_day l = length l.h.now
