use Rattle.std.proofs.Common.{◌≡◌, take}
use Rattle.live_core.proofs.keeper.refill.Given as goal

abbrev pub invariant-loop-x : goal.invariant-loop-x
invariant-loop-x l = l.batch ≡ take l.x-index l.records
