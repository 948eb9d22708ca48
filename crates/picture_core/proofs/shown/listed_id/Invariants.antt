use Rattle.std.proofs.Common.{◌≡◌, None, take}
use Rattle.std.specs.List.{fold}
use Rattle.picture_core.specs.Shown.{id_after}
use Rattle.picture_core.proofs.shown.listed_id.Given as goal

-- the id that the messages so far tell
abbrev pub invariant-loop-x : goal.invariant-loop-x
invariant-loop-x l = l.id ≡ fold (λ id x. id_after l.name id x.message) None (take l.x-index l.day)
