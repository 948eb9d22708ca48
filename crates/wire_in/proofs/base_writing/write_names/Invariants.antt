use Rattle.std.proofs.Common.{◌≡◌, ◌+◌, ◌*◌, ◌≤◌, ◌++◌, take, vec_len, vec_capacity}
use Rattle.std.specs.List.{flat_map}
use Rattle.wire_in.proofs.base_writing.write_names.Given as goal

abbrev pub invariant-loop-name : goal.invariant-loop-name
invariant-loop-name l = record {
  items : l.into.items ≡ l.initial.into.items ++ flat_map (λ name. name) (take l.name-index l.names);
  len : vec_len l.into ≡ vec_len l.initial.into + 8 * l.name-index;
  room : vec_capacity l.initial.into ≤ vec_capacity l.into;
}
