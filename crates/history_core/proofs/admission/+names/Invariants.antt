use Rattle.std.proofs.Common.{length}
use Rattle.history_core.proofs.admission.+names.Given as goal

abbrev pub decreases-names : goal.decreases-names
decreases-names l = length l.accepted.now
