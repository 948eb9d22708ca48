use Rattle.std.proofs.Common.{◌≡◌, ℕ, ◌+◌, ◌*◌, ◌<◌, ◌≤◌, length, take, vec_len, vec_capacity}
use Rattle.std.specs.Prelude.{sum, slice_index}
use Rattle.shard_core.specs.Prefix.{IsPrefix}
use Rattle.shard_core.specs.Shares.{IsShareEnd}
use Rattle.shard_core.proofs.ranges.cut.Given as goal

abbrev pub invariant-loop-share : goal.invariant-loop-share
invariant-loop-share l = record {
  count : vec_len l.ends + 1 ≡ l.share;
  within : l.share ≤ l.ranges;
  room : l.ranges ≤ vec_capacity l.ends;
  prefix : IsPrefix l.loads l.prefix.count l.prefix.sum;
  before : (fewer : ℕ) → fewer < l.prefix.count → l.ranges * sum (take fewer l.loads) < l.share * sum l.loads;
  each : (k : ℕ) → k < length l.ends.items → IsShareEnd l.loads l.ranges (k + 1) (slice_index l.ends.items k);
}
