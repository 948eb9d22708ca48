use Rattle.std.proofs.Common.{length, ◌-◌}
use Rattle.shard_core.specs.Prefix.{IsPrefix}
use Rattle.shard_core.proofs.ranges.sum_of.Given as goal

abbrev pub invariant-loop-prefix : goal.invariant-loop-prefix
invariant-loop-prefix l = IsPrefix l.loads l.prefix.count l.prefix.sum

abbrev pub decreases-loop-prefix : goal.decreases-loop-prefix
decreases-loop-prefix l = length l.loads - l.prefix.count
