use Rattle.std.proofs.Common.{◌≡◌, ◌+◌, ◌≤◌, ◌++◌, take, vec_len, vec_capacity}
use Rattle.shard_core.specs.Block.{tagged}
use Rattle.shard_core.proofs.turns.tag_each.Given as goal

abbrev pub invariant-loop-message : goal.invariant-loop-message
invariant-loop-message l = record {
  items : l.out.items ≡ l.initial.out.items ++ tagged l.input (take l.message-index l.said);
  room : vec_capacity l.initial.out ≤ vec_capacity l.out;
  len : vec_len l.out ≡ vec_len l.initial.out + l.message-index;
}
