use Rattle.std.proofs.Common.{◌≡◌, ◌≤◌, vec_len, vec_capacity}
use Rattle.shard_core.proofs.anew.Counts.of_each.Given as goal

abbrev pub invariant-loop-id : goal.invariant-loop-id
invariant-loop-id l = record {
  len : vec_len l.of_ids ≡ l._id;
  room : l.count ≤ vec_capacity l.of_ids;
}
