use Rattle.std.proofs.Common.{length}
use Rattle.history_core.proofs.auction.+indication_in.Given as goal

abbrev pub decreases-indication_in : goal.decreases-indication_in
decreases-indication_in l = length l.h.now
