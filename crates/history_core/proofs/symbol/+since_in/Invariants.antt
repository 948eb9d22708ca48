use Rattle.std.proofs.Common.{length}
use Rattle.history_core.proofs.symbol.+since_in.Given as goal

abbrev pub decreases-since_in : goal.decreases-since_in
decreases-since_in l = length l.h.now
