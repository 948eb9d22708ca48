use Rattle.std.proofs.Common.{◌≡◌, ◌++◌, drop}
use Rattle.rulebook.specs.History.{records}
use Rattle.history_core.proofs.history.records.Given as goal

abbrev pub invariant-loop-event : goal.invariant-loop-event
invariant-loop-event l = l.accepted.items ++ records (drop l.event-index l.h) ≡ records l.h
