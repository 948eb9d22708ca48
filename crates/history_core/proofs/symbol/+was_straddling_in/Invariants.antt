use Rattle.std.proofs.Common.{length}
use Rattle.history_core.proofs.symbol.+was_straddling_in.Given as goal

abbrev pub decreases-was_straddling_in : goal.decreases-was_straddling_in
decreases-was_straddling_in l = length l.h.now
