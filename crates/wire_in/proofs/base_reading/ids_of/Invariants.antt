use Rattle.std.proofs.Common.{◌≡◌, ◌*◌, length, take}
use Rattle.std.specs.Prelude.{All}
use Rattle.std.specs.Int.{w16, to_be_bytes}
use Rattle.std.specs.List.{flat_map}
use Rattle.wire_in.proofs.OneBase.{IsId}
use Rattle.wire_in.proofs.base_reading.ids_of.Given as goal

abbrev pub invariant-loop-i : goal.invariant-loop-i
invariant-loop-i l = record {
  bytes : flat_map (to_be_bytes w16) l.ids ≡ take (2 * l.i) l.bytes;
  range : All IsId l.ids;
  count : length l.ids ≡ l.i;
}
