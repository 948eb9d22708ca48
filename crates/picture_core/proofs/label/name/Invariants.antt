use Rattle.std.proofs.Common.{◌≡◌, [], take}
use Rattle.std.specs.List.{fold}
use Rattle.std.specs.String.{string_bytes}
use Rattle.picture_core.specs.Labels.{name_after}
use Rattle.picture_core.proofs.label.name.Given as goal

-- the text is the name that the messages so far tell
abbrev pub invariant-loop-x : goal.invariant-loop-x
invariant-loop-x l = string_bytes l.text ≡ fold (λ text x. name_after l.symbol text x.message) [] (take l.x-index l.messages)
