use Rattle.std.proofs.Common.{◌≡◌, ◌+◌, ◌++◌, map, take, vec_len, vec_capacity}
use Rattle.merge_core.specs.declared.tagged.Tagged.{Tagged}
use Rattle.evaluator_core.proofs.ahead.append.Given as goal

abbrev pub invariant-loop-message : goal.invariant-loop-message
invariant-loop-message l = record {
  items : l.out.items ≡ l.initial.out.items ++ map (λ (message : Tagged). message.stamped) (take l.message-index l.messages);
  capacity : vec_capacity l.out ≡ vec_capacity l.initial.out;
  len : vec_len l.out ≡ vec_len l.initial.out + l.message-index;
}
