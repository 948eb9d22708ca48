use Rattle.std.proofs.Common.{length}
use Rattle.afresh_core.proofs.prices.+has_left_limit.Given as goal

abbrev pub decreases-has_left_limit : goal.decreases-has_left_limit
decreases-has_left_limit l = length l.h.now
