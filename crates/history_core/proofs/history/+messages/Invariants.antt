use Rattle.std.proofs.Common.{length}
use Rattle.history_core.proofs.history.+messages.Given as goal

abbrev pub decreases-messages : goal.decreases-messages
decreases-messages l = length l.h.now
