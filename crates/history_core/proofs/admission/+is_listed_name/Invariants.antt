use Rattle.std.proofs.Common.{length}
use Rattle.history_core.proofs.admission.+is_listed_name.Given as goal

abbrev pub decreases-is_listed_name : goal.decreases-is_listed_name
decreases-is_listed_name l = length l.accepted.now
