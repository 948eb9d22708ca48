use Rattle.std.proofs.Common.{◌≡◌, drop}
use Rattle.wire_in.proofs.BaseParts.{rises_from}
use Rattle.wire_in.proofs.base_reading.rise_below.Given as goal

abbrev pub invariant-loop-id : goal.invariant-loop-id
invariant-loop-id l = rises_from l.least l.count (drop l.id-index l.ids) ≡ rises_from 0 l.count l.ids
