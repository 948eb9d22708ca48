use Rattle.std.proofs.Common.{take}
use Rattle.merge_core.specs.Weaving.{Rise}
use Rattle.merge_core.proofs.order.all_rise.Given as goal

abbrev pub invariant-loop-list : goal.invariant-loop-list
invariant-loop-list l = Rise (take l.list-index l.lists)
