use Rattle.std.proofs.Common.{length}
use Rattle.afresh_core.proofs.prices.+released_in.Given as goal

abbrev pub decreases-released_in : goal.decreases-released_in
decreases-released_in l = length l.h.now
