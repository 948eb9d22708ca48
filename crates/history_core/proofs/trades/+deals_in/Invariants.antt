use Rattle.std.proofs.Common.{length}
use Rattle.history_core.proofs.trades.+deals_in.Given as goal

abbrev pub decreases-deals_in : goal.decreases-deals_in
decreases-deals_in l = length l.h.now
