use Rattle.std.proofs.Common.{◌≡◌, take}
use Rattle.market_core.proofs.directory.Directory.restore.Given as goal

abbrev pub invariant-loop-name : goal.invariant-loop-name
invariant-loop-name l = l.directory ≡ take l.name-index l.names
