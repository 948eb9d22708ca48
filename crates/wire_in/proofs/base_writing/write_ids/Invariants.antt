use Rattle.std.proofs.Common.{◌≡◌, ◌+◌, ◌*◌, ◌≤◌, ◌++◌, take, vec_len, vec_capacity}
use Rattle.std.specs.Int.{w16, to_be_bytes}
use Rattle.std.specs.List.{flat_map}
use Rattle.wire_in.proofs.base_writing.write_ids.Given as goal

abbrev pub invariant-loop-id : goal.invariant-loop-id
invariant-loop-id l = record {
  items : l.into.items ≡ l.initial.into.items ++ flat_map (to_be_bytes w16) (take l.id-index l.ids);
  len : vec_len l.into ≡ vec_len l.initial.into + 2 * l.id-index;
  room : vec_capacity l.initial.into ≤ vec_capacity l.into;
}
