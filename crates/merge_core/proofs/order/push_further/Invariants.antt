use Rattle.std.proofs.Common.{◌≡◌, ◌+◌, ◌≤◌, ◌++◌, take, vec_len, vec_capacity}
use Rattle.merge_core.specs.Merged.{further}
use Rattle.merge_core.proofs.order.push_further.Given as goal

abbrev pub invariant-loop-message : goal.invariant-loop-message
invariant-loop-message l = record {
  items : l.out.items ≡ l.initial.out.items ++ further l.first (take l.message-index l.messages);
  room : vec_capacity l.initial.out ≤ vec_capacity l.out;
  len : vec_len l.out ≡ vec_len l.initial.out + l.message-index;
}
