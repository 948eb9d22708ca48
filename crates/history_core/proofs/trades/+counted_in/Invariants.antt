use Rattle.std.proofs.Common.{length}
use Rattle.history_core.proofs.trades.+counted_in.Given as goal

abbrev pub decreases-counted_in : goal.decreases-counted_in
decreases-counted_in l = length l.h.now
