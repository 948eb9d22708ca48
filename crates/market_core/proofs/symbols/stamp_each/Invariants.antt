use Rattle.std.proofs.Common.{◌≡◌, ◌+◌, ◌≤◌, ◌++◌, take, vec_len, vec_capacity}
use Rattle.market_core.specs.Ruled.{stamped}
use Rattle.market_core.proofs.symbols.stamp_each.Given as goal

abbrev pub invariant-loop-message : goal.invariant-loop-message
invariant-loop-message l = record {
  items : l.out.items ≡ l.initial.out.items ++ stamped l.moment (take l.message-index l.said);
  room : vec_capacity l.initial.out ≤ vec_capacity l.out;
  len : vec_len l.out ≡ vec_len l.initial.out + l.message-index;
}
