use Rattle.std.proofs.Common.{ℕ, ◌*◌, ◌<◌, length, take, ◌-◌}
use Rattle.std.specs.Prelude.{sum}
use Rattle.shard_core.specs.Prefix.{IsPrefix}
use Rattle.shard_core.proofs.ranges.advance.Given as goal

abbrev pub invariant-loop-prefix : goal.invariant-loop-prefix
invariant-loop-prefix l = IsPrefix l.loads l.prefix.count l.prefix.sum × ((fewer : ℕ) → fewer < l.prefix.count → l.times * sum (take fewer l.loads) < l.wanted)

abbrev pub decreases-loop-prefix : goal.decreases-loop-prefix
decreases-loop-prefix l = length l.loads - l.prefix.count
