use Rattle.std.proofs.Common.{length}
use Rattle.afresh_core.proofs.rules.+obey_all.Given as goal

abbrev pub decreases-obey_all : goal.decreases-obey_all
decreases-obey_all l = length l.rules.now
