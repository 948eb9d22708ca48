use Rattle.std.proofs.Common.{◌≡◌, [], take, drop}
use Rattle.wire_in.proofs.BaseParts.{are_new}
use Rattle.wire_in.proofs.base_reading.are_different.Given as goal

abbrev pub invariant-loop-name : goal.invariant-loop-name
invariant-loop-name l = record {
  seen : l.seen.keys ≡ take l.name-index l.names;
  rest : are_new (take l.name-index l.names) (drop l.name-index l.names) ≡ are_new [] l.names;
}
