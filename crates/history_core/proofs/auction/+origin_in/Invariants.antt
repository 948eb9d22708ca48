use Rattle.std.proofs.Common.{length}
use Rattle.history_core.proofs.auction.+origin_in.Given as goal

abbrev pub decreases-origin_in : goal.decreases-origin_in
decreases-origin_in l = length l.h.now
