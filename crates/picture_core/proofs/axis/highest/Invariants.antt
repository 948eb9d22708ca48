use Rattle.std.proofs.Common.{◌≡◌, None, take, max}
use Rattle.std.specs.List.{fold}
use Rattle.picture_core.specs.Scales.{one_of, greatest}
use Rattle.picture_core.proofs.axis.highest.Given as goal

abbrev pub invariant-loop-x : goal.invariant-loop-x
invariant-loop-x l = l.highest ≡ fold (λ best x. one_of max best (greatest x.message)) None (take l.x-index l.messages)
