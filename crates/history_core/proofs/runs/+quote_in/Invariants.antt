use Rattle.std.proofs.Common.{length}
use Rattle.history_core.proofs.runs.+quote_in.Given as goal

abbrev pub decreases-quote_in : goal.decreases-quote_in
decreases-quote_in l = length l.h.now
