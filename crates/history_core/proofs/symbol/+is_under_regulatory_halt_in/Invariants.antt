use Rattle.std.proofs.Common.{length}
use Rattle.history_core.proofs.symbol.+is_under_regulatory_halt_in.Given as goal

abbrev pub decreases-is_under_regulatory_halt_in : goal.decreases-is_under_regulatory_halt_in
decreases-is_under_regulatory_halt_in l = length l.h.now
