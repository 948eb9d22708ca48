use Rattle.alarms.specs.Due.{NoneDue}
use Rattle.alarms.proofs.alarms.first_due.Given as goal

abbrev pub invariant-loop-place : goal.invariant-loop-place
invariant-loop-place l = NoneDue l.t l.from l.place l.moments
