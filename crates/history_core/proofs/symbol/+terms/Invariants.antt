use Rattle.std.proofs.Common.{length}
use Rattle.history_core.proofs.symbol.+terms.Given as goal

abbrev pub decreases-terms : goal.decreases-terms
decreases-terms l = length l.h.now
