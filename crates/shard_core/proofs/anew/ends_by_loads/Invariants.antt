use Rattle.std.proofs.Common.{◌≡◌, ◌≤◌, vec_len, vec_capacity}
use Rattle.shard_core.proofs.anew.ends_by_loads.Given as goal

abbrev pub invariant-loop-part : goal.invariant-loop-part
invariant-loop-part l = record {
  len : vec_len l.ends ≡ l.part;
  room : l.parts ≤ vec_capacity l.ends;
}
