use Rattle.std.proofs.Common.{◌≡◌, ◌∷◌, map, take}
use Rattle.merge_core.specs.Weaving.{nows}
use Rattle.merge_core.proofs.order.lists_of.Given as goal

abbrev pub invariant-loop-part : goal.invariant-loop-part
invariant-loop-part l = nows l.lists.items ≡ l.market ∷ map (λ part. part.items) (take l.part-index l.parts)
