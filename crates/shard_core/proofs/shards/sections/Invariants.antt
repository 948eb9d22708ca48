use Rattle.std.proofs.Common.{◌≡◌, ◌≤◌, vec_len, vec_capacity}
use Rattle.shard_core.specs.Turns.{AreEmpty}
use Rattle.shard_core.proofs.shards.sections.Given as goal

abbrev pub invariant-loop-index : goal.invariant-loop-index
invariant-loop-index l = record {
  empty : AreEmpty l._index l.parts.items;
  len : vec_len l.parts ≡ l._index;
  room : l.count ≤ vec_capacity l.parts;
}
