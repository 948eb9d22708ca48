use Rattle.std.proofs.Common.{◌-◌, length}
use Rattle.rulebook.specs.Admission.{most_names}
use Rattle.shard_core.proofs.anew.Counts.begin.Given as goal

abbrev pub decreases-loop-self : goal.decreases-loop-self
decreases-loop-self l = most_names - length l.self.of_ids.items
