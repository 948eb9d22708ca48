use Rattle.std.proofs.Common.{◌≡◌, ◌≤◌, vec_len, vec_capacity}
use Rattle.shard_core.proofs.shards.lists.Given as goal

abbrev pub invariant-loop-index : goal.invariant-loop-index
invariant-loop-index l = record {
  len : vec_len l.lists ≡ l._index;
  room : l.count ≤ vec_capacity l.lists;
}
