use Rattle.std.proofs.Common.{length}
use Rattle.history_core.proofs.market.+market_halt_in.Given as goal

abbrev pub decreases-market_halt_in : goal.decreases-market_halt_in
decreases-market_halt_in l = length l.h.now
