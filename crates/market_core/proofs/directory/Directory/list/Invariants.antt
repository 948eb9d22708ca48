use Rattle.std.proofs.Common.{◌≡◌, take}
use Rattle.market_core.proofs.directory.Directory.list.Given as goal

abbrev pub invariant-loop-id : goal.invariant-loop-id
invariant-loop-id l = l.names ≡ take l.id l.self
