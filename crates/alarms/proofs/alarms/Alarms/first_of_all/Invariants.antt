use Rattle.std.proofs.Common.{◌≡◌, ◌*◌}
use Rattle.alarms.specs.Due.{NoneDue}
use Rattle.alarms.proofs.alarms.Alarms.first_of_all.Given as goal

abbrev pub invariant-loop-group : goal.invariant-loop-group
invariant-loop-group l = record { same : l.self ≡ l.fn.self; none : NoneDue l.t l.from (64 * l.group) l.fn.self }
