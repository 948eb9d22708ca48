use Rattle.std.proofs.Common.{length}
use Rattle.history_core.proofs.auction.+last_round_in.Given as goal

abbrev pub decreases-last_round_in : goal.decreases-last_round_in
decreases-last_round_in l = length l.h.now
