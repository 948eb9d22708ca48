use Rattle.std.proofs.Common.{◌≡◌, take}
use Rattle.std.specs.List.{flat_map}
use Rattle.std.specs.String.{string_bytes}
use Rattle.picture_core.specs.Stops.{sentence}
use Rattle.picture_core.proofs.stop.sentences.Given as goal

-- so many are in words
abbrev pub invariant-loop-stop : goal.invariant-loop-stop
invariant-loop-stop l = string_bytes l.text ≡ flat_map sentence (take l.stop-index l.stops)
