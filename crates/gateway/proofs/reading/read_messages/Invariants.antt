use Rattle.std.proofs.Common.{◌-◌, ◌^◌, ◌≤◌, All, length, vec_len}
use Rattle.gateway.specs.Rows.{CanPublish}
use Rattle.gateway.proofs.reading.read_messages.Given as goal

abbrev pub invariant-loop-at : goal.invariant-loop-at
invariant-loop-at l = record {
  near : l.at ≤ length l.bytes;
  all : All (CanPublish 16384) l.messages.items;
  count : vec_len l.messages ≤ 2 ^ 33;
}

abbrev pub decreases-loop-at : goal.decreases-loop-at
decreases-loop-at l = length l.bytes - l.at
