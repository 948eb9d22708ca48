use Rattle.std.proofs.Common.{take}
use Rattle.std.specs.Prelude.{All}
use Rattle.wire_in.specs.Bases.{IsListed}
use Rattle.wire_in.proofs.base_reading.are_names.Given as goal

abbrev pub invariant-loop-name : goal.invariant-loop-name
invariant-loop-name l = All IsListed (take l.name-index l.names)
