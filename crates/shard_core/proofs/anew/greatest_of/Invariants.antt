use Rattle.std.proofs.Common.{◌≤◌, length}
use Rattle.shard_core.proofs.anew.greatest_of.Given as goal

abbrev pub invariant-loop-end : goal.invariant-loop-end
invariant-loop-end l = record {
  within : l.start ≤ length l.loads;
  few : l.greatest ≤ 70368744161280;
}
