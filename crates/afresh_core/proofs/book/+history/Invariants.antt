use Rattle.std.proofs.Common.{length}
use Rattle.afresh_core.proofs.book.+history.Given as goal

abbrev pub decreases-history : goal.decreases-history
decreases-history l = length l.accepted.now
