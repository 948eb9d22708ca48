use Rattle.alarms.specs.Bounds.{IsLeast}
use Rattle.alarms.proofs.alarms.least.Given as goal

abbrev pub invariant-loop-number : goal.invariant-loop-number
invariant-loop-number l = IsLeast l.least 0 l.number-index l.numbers
