use Rattle.std.proofs.Common.{◌≡◌, length, min, take}
use Rattle.merge_core.specs.Weaving.{all_of}
use Rattle.merge_core.proofs.order.count.Given as goal

abbrev pub invariant-loop-list : goal.invariant-loop-list
invariant-loop-list l = l.count ≡ min (length (all_of (take l.list-index l.lists))) 18446744073709551615
