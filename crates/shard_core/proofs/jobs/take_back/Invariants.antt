use Rattle.std.proofs.Common.{◌≡◌, ◌≤◌, length}
use Rattle.shard_core.specs.Turns.{AreFew}
use Rattle.shard_core.proofs.WorkedJobs.{AreFirst, BackFrom}
use Rattle.shard_core.proofs.jobs.take_back.Given as goal

abbrev pub invariant-loop-job : goal.invariant-loop-job
invariant-loop-job l = record {
  first : AreFirst l.left.items l.initial.left.items;
  back : BackFrom (length l.left.items) l.initial.left.items l.parts l.told;
  left : length l.left.items ≤ length l.initial.parts;
  parts : length l.parts ≡ length l.initial.parts;
  told : length l.told ≡ length l.initial.parts;
  few : AreFew l.parts;
}

abbrev pub decreases-loop-job : goal.decreases-loop-job
decreases-loop-job l = length l.left.items
