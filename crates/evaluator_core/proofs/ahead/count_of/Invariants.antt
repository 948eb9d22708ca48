use Rattle.std.proofs.Common.{◌≡◌, ◌+◌, ◌-◌, ◌≤◌, drop, length}
use Rattle.evaluator_core.specs.Leading.{leading}
use Rattle.evaluator_core.proofs.ahead.count_of.Given as goal

abbrev pub invariant-loop-count : goal.invariant-loop-count
invariant-loop-count l = record {
  within : l.count ≤ length l.messages;
  leads : leading l.index l.messages ≡ l.count + leading l.index (drop l.count l.messages);
}

abbrev pub decreases-loop-count : goal.decreases-loop-count
decreases-loop-count l = length l.messages - l.count
