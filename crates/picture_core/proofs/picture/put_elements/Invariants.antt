use Rattle.std.proofs.Common.{◌≡◌, [], ◌++◌, drop}
use Rattle.std.specs.String.{string_bytes}
use Rattle.picture_core.specs.Places.{places_of}
use Rattle.picture_core.specs.Pictures.{elements}
use Rattle.picture_core.proofs.picture.put_elements.Given as goal

-- the messages before this one are drawn, and those from it on follow
abbrev pub invariant-loop-at : goal.invariant-loop-at
invariant-loop-at l =
    string_bytes l.text ++ elements l.rooms (drop l.at l.messages) (places_of l.axis l.last (drop l.at l.messages))
    ≡ string_bytes l.initial.text ++ elements [] l.messages (places_of l.axis l.last l.messages)
