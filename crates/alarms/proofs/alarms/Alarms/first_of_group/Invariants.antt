use Rattle.std.proofs.Common.{◌≡◌, ◌*◌}
use Rattle.alarms.specs.Due.{NoneDue}
use Rattle.alarms.proofs.alarms.Alarms.first_of_group.Given as goal

abbrev pub invariant-loop-block : goal.invariant-loop-block
invariant-loop-block l = record { same : l.self ≡ l.fn.self; none : NoneDue l.t l.from (8 * l.block) l.fn.self }
