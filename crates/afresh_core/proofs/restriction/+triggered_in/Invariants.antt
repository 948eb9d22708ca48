use Rattle.std.proofs.Common.{length}
use Rattle.afresh_core.proofs.restriction.+triggered_in.Given as goal

abbrev pub decreases-triggered_in : goal.decreases-triggered_in
decreases-triggered_in l = length l.h.now
