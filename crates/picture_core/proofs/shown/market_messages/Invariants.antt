use Rattle.std.proofs.Common.{◌≡◌, take}
use Rattle.std.specs.List.{filter}
use Rattle.picture_core.specs.Shown.{is_market}
use Rattle.picture_core.proofs.shown.market_messages.Given as goal

-- those of the messages so far are kept
abbrev pub invariant-loop-x : goal.invariant-loop-x
invariant-loop-x l = l.messages.items ≡ filter (λ x. is_market x.message) (take l.x-index l.day)
