use Rattle.std.proofs.Common.{length}
use Rattle.history_core.proofs.symbol.+phase_in.Given as goal

abbrev pub decreases-phase_in : goal.decreases-phase_in
decreases-phase_in l = length l.h.now
