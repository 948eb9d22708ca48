use Rattle.std.proofs.Common.{◌≡◌, None, take, min}
use Rattle.std.specs.List.{fold}
use Rattle.picture_core.specs.Scales.{one_of, least}
use Rattle.picture_core.proofs.axis.lowest.Given as goal

abbrev pub invariant-loop-x : goal.invariant-loop-x
invariant-loop-x l = l.lowest ≡ fold (λ best x. one_of min best (least x.message)) None (take l.x-index l.messages)
