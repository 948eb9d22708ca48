use Rattle.std.proofs.Common.{◌≡◌, ◌*◌, length, take}
use Rattle.std.specs.Prelude.{All}
use Rattle.std.specs.List.{flat_map}
use Rattle.wire_in.proofs.OneBase.{IsEight}
use Rattle.wire_in.proofs.base_reading.names_of.Given as goal

abbrev pub invariant-loop-i : goal.invariant-loop-i
invariant-loop-i l = record {
  bytes : flat_map (λ name. name) l.names ≡ take (8 * l.i) l.bytes;
  sizes : All IsEight l.names;
  count : length l.names ≡ l.i;
}
